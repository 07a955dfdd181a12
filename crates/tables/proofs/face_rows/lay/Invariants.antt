-- `tables::face_rows::lay` meets its contract: before turn f the first f rows are stored. Assumes nothing.
use Rattle.seq.specs.Loops.Storing.{Laying}
use Rattle.paper.specs.Limits.{maps}
use Rattle.paper.specs.Tables.{face_width}
use Rattle.tables.specs.Rows.{face_by}
use Rattle.tables.proofs.face_rows.lay.Given as goal

abbrev pub invariant-loop-f : goal.invariant-loop-f
invariant-loop-f l = Laying (face_width maps) (face_by l.labels l.outer l.holes) l.n l.initial.faces l.faces l.f
