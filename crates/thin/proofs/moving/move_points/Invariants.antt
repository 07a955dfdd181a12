-- `thin::moving::move_points` meets its contract: before a turn the rows of the marked vertices below the counter are moved. Assumes nothing.
use mathlib.Core.Path.{◌≡◌}
use Prim.Native.Nat.{◌-◌}
use lib.ListN.{length}
use Rattle.graph.specs.Flat.{the_point_at}
use Rattle.thin.specs.Thinned.{marked}
use Rattle.thin.specs.Laws.Moving.{Moving}
use Rattle.thin.proofs.moving.move_points.Given as goal

abbrev pub invariant-loop-v : goal.invariant-loop-v
invariant-loop-v l = (length l.out ≡ length l.initial.out) × Moving (marked l.marks) (the_point_at l.points) l.n (the_point_at l.out) l.c l.v
