-- `overlay_sweep::search::through_to` meets its contract: all from a on that the loop has passed go through p. Assumes nothing.
use Rattle.plane.specs.Values.{pt_of}
use Rattle.seq.specs.Search.{Scan}
use Rattle.overlay_sweep.specs.Sides.{on_at}
use Rattle.overlay_sweep.proofs.search.through_to.Given as goal

abbrev pub invariant-loop-i : goal.invariant-loop-i
invariant-loop-i l = Scan (on_at l.cut.sheet.carriers.now l.cut.status.now (pt_of l.p)) l.cut.c l.a l.i
