-- `overlay_cut::between::place` meets its contract: the rows below `low` come before the corner, and the row at `high` does not. Assumes nothing.
use Prim.Native.Nat.{◌-◌}
use Rattle.seq.specs.Halves.{Halving, reached}
use Rattle.paper.specs.Plane.{whole, before}
use Rattle.plane.specs.Values.{vec_of}
use Rattle.graph.specs.Flat.{the_point_at}
use Rattle.overlay_cut.proofs.between.place.Given as goal

abbrev pub invariant-loop-low : goal.invariant-loop-low
invariant-loop-low l = Halving (reached before (the_point_at l.points) (whole (vec_of l.a))) l.n l.low l.high

abbrev pub decreases-loop-low : goal.decreases-loop-low
decreases-loop-low l = l.high - l.low
