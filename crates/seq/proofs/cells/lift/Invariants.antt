-- `lift` meets its contract: before turn i the cells from i + 1 on are moved. Assumes nothing.
use Rattle.seq.specs.Loops.Lifting.{Lifting}
use Rattle.seq.proofs.cells.lift.Given as goal

abbrev pub invariant-loop-i : goal.invariant-loop-i
invariant-loop-i g l = Lifting l.from l.to l.by l.initial.t l.t l.i
