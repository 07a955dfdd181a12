-- `soundings::bytes::add_byte` meets its contract: with its last byte a sounding is whole. Assumes nothing.
use Rattle.soundings.specs.Looks.{look_of}
use Rattle.soundings.specs.Step.{byte_sounding}
use Rattle.soundings.proofs.bytes.add_byte.Goals as goal

pub returns-else-at-lt-SOUNDING_SIZE : goal.returns-else-at-lt-SOUNDING_SIZE
returns-else-at-lt-SOUNDING_SIZE c =
    let a = c.args in
    let t = a.t.now in
    let y = c.add_sounding.new.t in
    byte_sounding (look_of a.maps) t.bytes t.labels t.counts t.progress a.b c.if-p-ne0.false c.requires t.four y.bytes y.labels y.counts y.progress c.if-at-lt-SOUNDING_SIZE.false c.add_sounding.ensures
