-- `ovfile::bytes::put` meets its contract: what is left of the number is still to be stored. Assumes nothing.
use Rattle.ovfile.proofs.BytesLaws.{Writing}
use Rattle.ovfile.proofs.bytes.put.Given as goal

abbrev pub invariant-loop-i : goal.invariant-loop-i
invariant-loop-i l = Writing l.initial.buffer l.at l.width l.n l.buffer l.rest l.i
