-- `cells::batches::read_batches`: before each turn some bytes are counted. Assumes nothing.
use Rattle.soundings.specs.Unique.{Read}
use Rattle.cells.proofs.batches.read_batches.Given as goal

abbrev pub invariant-loop : goal.invariant-loop
invariant-loop g l = Read l.fn.start l.count
