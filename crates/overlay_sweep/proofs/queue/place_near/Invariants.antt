-- `overlay_sweep::queue::place_near` meets its contract: all rows from b on come before p. Assumes nothing.
use Rattle.std.specs.Prelude.{◌*◌}
use Prim.Native.Nat.{◌≤◌}
use Rattle.plane.specs.Values.{pt_of}
use Rattle.seq.specs.Halves.{Halving}
use Rattle.overlay_cut.specs.Rooms.{vertex_rows}
use Rattle.overlay_sweep.specs.Queue.{the_before_at}
use Rattle.overlay_sweep.proofs.queue.place_near.Given as goal

abbrev pub invariant-loop-s : goal.invariant-loop-s
invariant-loop-s l = Halving (the_before_at l.points (pt_of l.p)) l.n 0 l.b × (1 ≤ l.s) × (l.s ≤ 2 * vertex_rows)

abbrev pub decreases-loop-s : goal.decreases-loop-s
decreases-loop-s l = l.b
