-- `ovfile::bytes::number_by` meets its contract: past the end every byte is 0, and before it the places can be counted. Assumes nothing.
use Rattle.ovfile.proofs.BytesLaws.{Reading}
use Rattle.ovfile.proofs.bytes.number_by.Given as goal

abbrev pub invariant-loop-i : goal.invariant-loop-i
invariant-loop-i l = Reading l.width l.file l.at l.i l.n
