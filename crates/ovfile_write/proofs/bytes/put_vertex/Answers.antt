-- `ovfile_write::bytes::put_vertex` meets its contract. Assumes nothing.
use Rattle.std.specs.Prelude.{◌+◌, ◌*◌}
use mathlib.Core.Path.{ap, ◌∙◌}
use mir.Syntax.{w64}
use mir.ValLaws.{to_z-of_z}
use Rattle.seq.specs.Seq.{[], nat_abs, sets}
use Rattle.paper.specs.Limits.{coordinate_bytes, denominator_bytes}
use Rattle.tables.specs.Values.{tables_by}
use Rattle.ovfile_write.proofs.PutLaws.{signed-bytes, vertex-put}
use native.Mathlib.Omega.{arith}
use Rattle.ovfile_write.proofs.bytes.put_vertex.Goals as goal

pub twos-x-requires : goal.twos-x-requires
twos-x-requires c = (omega arith, omega (arith, ap nat_abs (to_z-of_z w64 _ (record { sfits = c.vertex_cell.type_inv }) ∙ c.vertex_cell.ensures), c.requires.0.x))

pub twos-y-requires : goal.twos-y-requires
twos-y-requires c = (omega arith, omega (arith, ap nat_abs (to_z-of_z w64 _ (record { sfits = c.vertex_cell-2.type_inv }) ∙ c.vertex_cell-2.ensures), c.requires.0.y))

pub twos-d-requires : goal.twos-d-requires
twos-d-requires c = (omega arith, omega (arith, ap nat_abs (to_z-of_z w64 _ (record { sfits = c.vertex_cell-3.type_inv }) ∙ c.vertex_cell-3.ensures), c.requires.0.d))

pub returns : goal.returns
returns c =
    let a = c.args in
    let x = signed-bytes coordinate_bytes _ _ _ c.twos-x.ensures (to_z-of_z w64 _ (record { sfits = c.vertex_cell.type_inv }) ∙ c.vertex_cell.ensures) in
    let y = signed-bytes coordinate_bytes _ _ _ c.twos-y.ensures (to_z-of_z w64 _ (record { sfits = c.vertex_cell-2.type_inv }) ∙ c.vertex_cell-2.ensures) in
    let d = signed-bytes denominator_bytes _ _ _ c.twos-d.ensures (to_z-of_z w64 _ (record { sfits = c.vertex_cell-3.type_inv }) ∙ c.vertex_cell-3.ensures) in
    vertex-put (tables_by a.vertices.now [] [] []) a.v a.buffer.now _ _ _ a.at
    (c.put.ensures ∙ ap (sets _ a.at) x)
    (c.put-2.ensures ∙ ap (sets _ (a.at + coordinate_bytes)) y)
    (c.put-3.ensures ∙ ap (sets _ (a.at + 2 * coordinate_bytes)) d)
