-- `soundings::bytes::add_bytes` meets its contract: before turn i the first i bytes are added. Assumes nothing.
use Rattle.soundings.specs.Looks.{look_of}
use Rattle.soundings.specs.Step.{Adding}
use Rattle.soundings.proofs.bytes.add_bytes.Given as goal

abbrev pub invariant-loop-b : goal.invariant-loop-b
invariant-loop-b l = Adding (look_of l.maps) l.batch l.initial.t.bytes l.initial.t.labels l.initial.t.counts l.initial.t.progress l.t.bytes l.t.labels l.t.counts l.t.progress l.b-index
