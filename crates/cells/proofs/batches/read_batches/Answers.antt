-- `cells::batches::read_batches` meets its contract: what was counted before a turn, and one batch more. Assumes nothing.
use Rattle.soundings.specs.Unique.{read_more}
use Rattle.cells.proofs.batches.read_batches.Goals as goal

pub loop-preserved : goal.loop-preserved
loop-preserved g c = read_more c.loop.invariant c.read_batch-count.ensures
