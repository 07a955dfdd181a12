-- `overlay_sweep::splice::lower` meets its contract: before turn i the cells below i are moved. Assumes nothing.
use Rattle.overlay_sweep.specs.Splicing.{Lowering}
use Rattle.overlay_sweep.proofs.splice.lower.Given as goal

abbrev pub invariant-loop-i : goal.invariant-loop-i
invariant-loop-i l = Lowering l.from l.to l.by l.initial.t l.t l.i
