-- `looks::straying::strays` meets its contract. Assumes nothing.
use Rattle.std.proofs.Common.{refl, ◌∙◌, ◌-◌, ◌≡◌, arith, rules}
use Rattle.std.proofs.lemmas.Iterator.{YieldsList-from_range}
use Rattle.std.proofs.lemmas.Iterator.Search.{any_from_yields_List}
use borrow.Author.Tests.{tests}
use Rattle.looks.specs.Straying.{strays_at}
use Rattle.seq.proofs.Ranges.{any-some}
use Rattle.looks.proofs.straying.strays.Goals as goal

pub returns : goal.returns
returns c =
    let e = c.args.e in
    let p = strays_at c.args.rails.now in
    any_from_yields_List p _ _ _ c.any.ensures.ran (YieldsList-from_range 0 e e refl (omega arith)) (λ x b q k. search (rules, tests)) ∙ any-some p e
