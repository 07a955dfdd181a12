-- `overlay_sweep::corners::corners_in` meets its contract. Assumes nothing.
use Rattle.overlay_sweep.specs.Laws.Corners.{Cornered}
use Rattle.overlay_sweep.proofs.corners.corners_in.Given as goal

abbrev pub invariant-loop-v : goal.invariant-loop-v
invariant-loop-v l = Cornered l.rows l.c l.initial.points l.points l.n l.v
