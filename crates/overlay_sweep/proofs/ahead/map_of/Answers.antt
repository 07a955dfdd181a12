-- `overlay_sweep::ahead::map_of` meets its contract. Assumes nothing.
use Rattle.std.proofs.Common.{refl, ◌∙◌, ◌+◌, arith, rules, Bool}
use Rattle.std.proofs.lemmas.Iterator.{YieldsList-from_range}
use Rattle.std.proofs.lemmas.Iterator.Search.{position_from_yields_List}
use borrow.Author.Tests.{tests}
use lib.Dec.{ltb}
use Rattle.seq.specs.Seq.{ℕ}
use Rattle.seq.proofs.Ranges.{position-least}
use Rattle.paper.specs.Limits.{maps}
use Rattle.overlay_cut.specs.Cuts.{start_of}
use Rattle.overlay_sweep.proofs.ahead.map_of.Goals as goal

pub returns : goal.returns
returns c =
    let f : ℕ → Bool = λ m. ltb c.args.k (start_of c.args.starts.now (m + 1)) in
    c.unwrap_or.ensures
    ∙ position-least f maps _ (position_from_yields_List f _ _ _ c.position.ensures.ran (YieldsList-from_range 0 maps maps refl (omega arith)) (λ x b q k. search (rules, tests)))
