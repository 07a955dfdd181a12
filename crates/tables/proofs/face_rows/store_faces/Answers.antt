-- `tables::face_rows::store_faces` meets its contract. Assumes nothing.
use mathlib.Core.Path.{refl}
use Rattle.paper.specs.Limits.{maps}
use Rattle.paper.specs.Tables.{face_width}
use Rattle.tables.specs.Rows.{face_by}
use Rattle.tables.proofs.RowLaws.{laid-wiped}
use Rattle.tables.proofs.face_rows.store_faces.Goals as goal
use Rattle.tables.proofs.face_rows.store_faces.Goals.{After-lay, Start}

pub returns : goal.returns
returns c =
    let a = c.args in
    laid-wiped 0 (face_width maps) a.count (face_by a.labels.now a.outer.now a.holes.now) a.faces.now (λ k. refl) c.requires.0 c.lay.ensures c.wipe_from.ensures
