-- `soundings_count::table::falls` meets its contract. Assumes nothing.
use Rattle.std.proofs.Common.{refl, ◌∙◌, arith, rules}
use Rattle.std.proofs.lemmas.Iterator.{YieldsList-from_range}
use Rattle.std.proofs.lemmas.Iterator.Search.{any_from_yields_List}
use borrow.Author.Tests.{tests}
use Rattle.seq.proofs.Ranges.{any-some}
use Rattle.soundings_count.specs.Handed.{falls_at}
use Rattle.soundings_count.proofs.table.falls.Goals as goal

pub returns : goal.returns
returns c =
    let n = c.args.n in
    let p = falls_at c.args.labels.now in
    any_from_yields_List p _ _ _ c.any.ensures.ran (YieldsList-from_range 0 n n refl (omega arith)) (λ x b q k. search (rules, tests)) ∙ any-some p n
