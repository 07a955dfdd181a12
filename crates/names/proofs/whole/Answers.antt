-- `names::whole` meets its contract. Assumes nothing.
use Rattle.names.specs.Walking.{pass_turns}
use Rattle.names.proofs.whole.Goals as goal

pub loop-end-preserved : goal.loop-end-preserved
loop-end-preserved c = pass_turns _ c.loop-end.invariant c.in-Some.end c.in-Some.ensures
