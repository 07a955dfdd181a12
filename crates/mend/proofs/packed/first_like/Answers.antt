-- `mend::packed::first_like` meets its contract. Assumes nothing.
use Rattle.std.specs.Prelude.{refl}
use Rattle.std.proofs.Common.{◌∙◌, arith, rules}
use Rattle.std.proofs.lemmas.Iterator.{YieldsList-from_range}
use Rattle.std.proofs.lemmas.Iterator.Search.{position_from_yields_List}
use borrow.Author.Tests.{tests}
use Rattle.seq.proofs.Ranges.{position-least}
use Rattle.mend.specs.Keys.{like_in}
use Rattle.mend.proofs.packed.first_like.Goals as goal

pub returns : goal.returns
returns c =
    let n = c.args.i in
    let p = like_in c.args.keys.now c.args.i in
    c.unwrap_or.ensures
    ∙ position-least p n c.position.result (position_from_yields_List p _ _ _ c.position.ensures.ran (YieldsList-from_range 0 n n refl (omega arith)) (λ x b q k. search (rules, tests)))
