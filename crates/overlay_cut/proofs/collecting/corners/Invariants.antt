-- `overlay_cut::collecting::corners` meets its contract. Assumes nothing.
use mathlib.Core.List.{[], ◌∷◌}
use Rattle.graph.specs.Flat.{the_point_at}
use Rattle.overlay_cut.specs.Collecting.{Gathering}
use Rattle.overlay_cut.proofs.collecting.corners.Given as goal

abbrev pub invariant-loop-v : goal.invariant-loop-v
invariant-loop-v l = Gathering l.room (λ k. the_point_at l.corners k ∷ []) l.c l.initial.points l.n l.points l.total l.v
