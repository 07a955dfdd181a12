-- `overlay_sweep::search::west_of` meets its contract: all below a have p on their right, and none from b on. Assumes nothing.
use Prim.Native.Nat.{◌-◌}
use Rattle.plane.specs.Values.{pt_of}
use Rattle.seq.specs.Halves.{Halving}
use Rattle.seq.specs.Seq.{not}
use Rattle.overlay_sweep.specs.Sides.{right_at}
use Rattle.overlay_sweep.proofs.search.west_of.Given as goal

abbrev pub invariant-loop-a : goal.invariant-loop-a
invariant-loop-a l = Halving (λ i. not (right_at l.cut.sheet.carriers.now l.cut.status.now (pt_of l.p) i)) l.cut.c l.a l.b

abbrev pub decreases-loop-a : goal.decreases-loop-a
decreases-loop-a l = l.b - l.a
