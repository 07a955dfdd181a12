-- `ovfile::bytes::put_fields` meets its contract: the fields are rows of two bytes. Assumes nothing.
use Rattle.seq.specs.Seq.{List, ℕ, length, get_or}
use Rattle.paper.specs.Bytes.{le}
use Rattle.seq.specs.Loops.Storing.{Storing}
use Rattle.ovfile.proofs.bytes.put_fields.Given as goal

abbrev pub field : List ℕ → ℕ → List ℕ
field fields i = le 2 (get_or fields i 0)

abbrev pub invariant-loop-i : goal.invariant-loop-i
invariant-loop-i l = Storing 2 (field l.fields) l.at (length l.fields) l.initial.buffer l.buffer l.i
