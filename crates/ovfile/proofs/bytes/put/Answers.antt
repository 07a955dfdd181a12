-- `ovfile::bytes::put` meets its contract: what is left of the number is still to be stored. Assumes nothing.
use Rattle.ovfile.proofs.BytesLaws.{write_starts, write_turns, write_ends}
use Rattle.ovfile.proofs.bytes.put.Goals as goal

pub loop-i-init : goal.loop-i-init
loop-i-init c = write_starts

pub loop-i-preserved : goal.loop-i-preserved
loop-i-preserved c = write_turns c.loop-i.invariant c.loop-i-test.true

pub returns : goal.returns
returns c = write_ends c.loop-i.invariant c.loop-i-test.false
