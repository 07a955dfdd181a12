-- `wipe_from` meets its contract: where the loop has reached cell i of those from n on, the cells before it are zero and the others as they were.
-- Assumes nothing.
use Rattle.seq.specs.Loops.Wiping.{Wiping}
use Rattle.seq.proofs.cells.wipe_from.Given as goal

abbrev pub invariant-loop-cell : goal.invariant-loop-cell
invariant-loop-cell g l = Wiping l.zero 0 l.initial.cell-items l.cell-items l.cell-index
