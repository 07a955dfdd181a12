-- `soundings::bytes::add_bytes` meets its contract: before turn i the first i bytes are added. Assumes nothing.
use borrow.Author.Rules.{rules}
use Rattle.soundings.specs.Step.{adding_fit, adding_turns}
use Rattle.soundings.proofs.bytes.add_bytes.Goals as goal

pub add_byte-requires : goal.add_byte-requires
add_byte-requires c = adding_fit c.loop-b.invariant c.requires

pub loop-b-preserved : goal.loop-b-preserved
loop-b-preserved c = adding_turns c.loop-b.invariant _ _ _ _ c.loop-b-test.true c.add_byte.ensures
