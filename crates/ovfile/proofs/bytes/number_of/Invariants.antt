-- `ovfile::bytes::number_of` meets its contract. Assumes nothing.
use Rattle.ovfile.proofs.BytesLaws.{Reading}
use Rattle.ovfile.proofs.bytes.number_of.Given as goal

abbrev pub invariant-loop-i : goal.invariant-loop-i
invariant-loop-i g l = Reading g.row.W l.file l.at l.i l.n
