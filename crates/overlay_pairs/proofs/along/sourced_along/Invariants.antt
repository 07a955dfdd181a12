-- `overlay_pairs::along::sourced_along` meets its contract: wherever the loop is, it is on the walk of h. Assumes nothing.
use Rattle.overlay_pairs.specs.Labels.{OnWalk}
use Rattle.overlay_pairs.proofs.along.sourced_along.Given as goal

abbrev pub invariant-loop : goal.invariant-loop
invariant-loop l = OnWalk l.next l.h l.x
