-- `ovfile_write::bytes::put_faces` meets its contract. Assumes nothing.
use Rattle.seq.specs.Seq.{[]}
use Rattle.paper.specs.Ovfile.{face_size}
use Rattle.tables.specs.Values.{tables_by}
use Rattle.ovfile.specs.Values.{layout}
use Rattle.seq.specs.Loops.Storing.{Storing}
use Rattle.ovfile_write.proofs.PutLaws.{face_bytes}
use Rattle.ovfile_write.proofs.bytes.put_faces.Given as goal

abbrev pub invariant-loop-f : goal.invariant-loop-f
invariant-loop-f l = Storing (face_size layout) (face_bytes (tables_by [] [] [] l.faces)) l.start l.n l.initial.buffer l.buffer l.f
