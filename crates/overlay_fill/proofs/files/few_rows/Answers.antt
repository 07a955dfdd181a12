-- `overlay_fill::files::few_rows` meets its contract. Assumes nothing.
use Rattle.std.specs.Prelude.{◌∷◌, ◌+◌}
use mathlib.Core.Path.{◌∙◌}
use native.Mathlib.Omega.{arith}
use borrow.Author.Tests.{lt-leb}
use Rattle.graph.specs.Small.{small_vertices}
use Rattle.seq.specs.Seq.{[]}
use Rattle.overlay_fill.proofs.FilesLaws.{few_rows_lem, many-rows}
use Rattle.overlay_fill.proofs.files.few_rows.Goals as goal

pub returns-then-v-le-SMALL_VERTICES : goal.returns-then-v-le-SMALL_VERTICES
returns-then-v-le-SMALL_VERTICES c =
    let a = c.args in
    few_rows_lem (a.zones.now ∷ a.blocks.now ∷ a.bed.now ∷ [])
    (c.vertex_count.result + c.vertex_count-2.result + c.vertex_count-3.result)
    (c.edge_count.result + c.edge_count-2.result + c.edge_count-3.result)
    (omega (arith, c.vertex_count.ensures, c.vertex_count-2.ensures, c.vertex_count-3.ensures))
    (omega (arith, c.edge_count.ensures, c.edge_count-2.ensures, c.edge_count-3.ensures))
    c.if-v-le-SMALL_VERTICES.true

pub returns-else-v-le-SMALL_VERTICES : goal.returns-else-v-le-SMALL_VERTICES
returns-else-v-le-SMALL_VERTICES c =
    let a = c.args in
    let v = c.vertex_count.result + c.vertex_count-2.result + c.vertex_count-3.result in
    lt-leb v small_vertices c.if-v-le-SMALL_VERTICES.false
    ∙ many-rows (a.zones.now ∷ a.blocks.now ∷ a.bed.now ∷ []) v (omega (arith, c.vertex_count.ensures, c.vertex_count-2.ensures, c.vertex_count-3.ensures)) c.if-v-le-SMALL_VERTICES.false
