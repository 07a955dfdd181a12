-- `ovfile_read::fill::lay_faces` meets its contract. Assumes nothing.
use Rattle.paper.specs.Limits.{maps}
use Rattle.paper.specs.Tables.{face_width}
use Rattle.paper.specs.Reader.{counts_in, face_read}
use Rattle.ovfile.specs.Values.{layout_from}
use Rattle.seq.specs.Loops.Storing.{Laying}
use Rattle.ovfile_read.proofs.fill.lay_faces.Given as goal

abbrev pub invariant-loop-f : goal.invariant-loop-f
invariant-loop-f l = Laying (face_width maps) (face_read maps (layout_from l.stored.layout) l.stored.file.now) (counts_in l.stored.file.now).faces l.initial.faces l.faces l.f
