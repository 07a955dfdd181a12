-- `overlay_sweep::queue::place_in` meets its contract. Assumes nothing.
use Prim.Native.Nat.{◌-◌}
use Rattle.plane.specs.Values.{pt_of}
use Rattle.seq.specs.Halves.{Halving}
use Rattle.overlay_sweep.specs.Queue.{the_before_at}
use Rattle.overlay_sweep.proofs.queue.place_in.Given as goal

abbrev pub invariant-loop-a : goal.invariant-loop-a
invariant-loop-a l = Halving (the_before_at l.points (pt_of l.p)) l.n l.a l.b

abbrev pub decreases-loop-a : goal.decreases-loop-a
decreases-loop-a l = l.b - l.a
