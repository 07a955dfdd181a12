-- `ovfile::bytes::numbers` meets its contract. Assumes nothing.
use Rattle.ovfile.proofs.BytesLaws.{shifted_is}
use Rattle.ovfile.proofs.bytes.numbers.Goals as goal

pub returns : goal.returns
returns c = shifted_is c.args.width c.requires
