-- `overlay_cut::edges::first_map` meets its contract. Assumes nothing.
use Rattle.std.proofs.Common.{refl, ◌∙◌, arith, rules, Bool}
use Rattle.std.proofs.lemmas.Iterator.{YieldsList-from_range}
use Rattle.std.proofs.lemmas.Iterator.Search.{position_from_yields_List}
use borrow.Author.Tests.{tests}
use lib.Dec.{ltb}
use Rattle.seq.specs.Seq.{ℕ}
use Rattle.seq.proofs.Ranges.{position-least}
use Rattle.paper.specs.Limits.{maps}
use Rattle.overlay_cut.specs.Net.{the_source_in}
use Rattle.overlay_cut.proofs.edges.first_map.Goals as goal

pub returns : goal.returns
returns c =
    let f : ℕ → Bool = λ m. ltb 0 (the_source_in c.args.pieces.now c.args.k m) in
    c.unwrap_or.ensures
    ∙ position-least f maps _ (position_from_yields_List f _ _ _ c.position.ensures.ran (YieldsList-from_range 0 maps maps refl (omega arith)) (λ x b q k. search (rules, tests)))
