-- `tables::vertex_rows::store_vertices` meets its contract. Assumes nothing.
use mathlib.Core.Path.{refl}
use lib.IntN.{pos}
use Rattle.tables.specs.Rows.{vertex_of}
use Rattle.tables.proofs.RowLaws.{laid-wiped}
use Rattle.tables.proofs.vertex_rows.store_vertices.Goals as goal
use Rattle.tables.proofs.vertex_rows.store_vertices.Goals.{After-lay, Start}

pub returns : goal.returns
returns c =
    let a = c.args in
    laid-wiped (pos 0) 4 a.count (vertex_of a.points.now a.least.now) a.vertices.now (λ k. refl) c.requires.0 c.lay.ensures c.wipe_from.ensures
