-- `map_check::parts::lay_carriers` meets its contract: below the counter the rows are the carriers, and the other cells as they were. Assumes nothing.
use Rattle.std.specs.Prelude.{◌∷◌}
use mathlib.Core.Path.{refl, ap}
use native.Mathlib.Omega.{arith}
use borrow.Author.Rules.{rules}
use Rattle.seq.specs.Loops.Storing.{lay_starts, lay_turns, lay_ends}
use Rattle.seq.specs.Seq.{[]}
use Rattle.paper.specs.Plane.{Seg}
use Rattle.map_check.proofs.parts.lay_carriers.Goals as goal

pub loop-k-preserved : goal.loop-k-preserved
loop-k-preserved c =
    lay_turns c.loop-k.invariant (λ k. refl) (omega arith) c.store_carrier.ensures
    (ap (λ (s : Seg). s.foot.x ∷ s.foot.y ∷ s.up.x ∷ s.up.y ∷ []) c.carrier.ensures.is)

pub loop-k-init : goal.loop-k-init
loop-k-init c = lay_starts (search rules)

pub returns : goal.returns
returns c = lay_ends c.loop-k.invariant (λ k. refl) (omega arith)
