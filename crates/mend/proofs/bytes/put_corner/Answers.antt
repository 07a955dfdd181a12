-- `mend::bytes::put_corner` meets its contract. Assumes nothing.
use Rattle.std.specs.Prelude.{◌+◌}
use mathlib.Core.Path.{ap, ◌∙◌}
use native.Mathlib.Omega.{arith}
use mir.Syntax.{w64}
use mir.ValLaws.{to_z-of_z}
use Rattle.seq.specs.Seq.{nat_abs, sets}
use Rattle.map_check.specs.Parts.{corner_in}
use Rattle.mend.proofs.ByteLaws.{signed-bytes, corner-put}
use Rattle.mend.proofs.bytes.put_corner.Goals as goal

pub twos-x-requires : goal.twos-x-requires
twos-x-requires c =
    (omega arith, omega (arith, ap nat_abs (to_z-of_z w64 _ (record { sfits = c.vertex_cell.type_inv }) ∙ c.vertex_cell.ensures), c.requires.0.x_is))

pub twos-y-requires : goal.twos-y-requires
twos-y-requires c =
    (omega arith, omega (arith, ap nat_abs (to_z-of_z w64 _ (record { sfits = c.vertex_cell-2.type_inv }) ∙ c.vertex_cell-2.ensures), c.requires.0.y_is))

pub returns : goal.returns
returns c =
    let a = c.args in
    let x = signed-bytes _ _ _ c.twos-x.ensures (to_z-of_z w64 _ (record { sfits = c.vertex_cell.type_inv }) ∙ c.vertex_cell.ensures) in
    let y = signed-bytes _ _ _ c.twos-y.ensures (to_z-of_z w64 _ (record { sfits = c.vertex_cell-2.type_inv }) ∙ c.vertex_cell-2.ensures) in
    corner-put (corner_in a.points.now a.v) a.out.now _ _ a.at
    (c.put.ensures ∙ ap (sets _ a.at) x)
    (c.put-2.ensures ∙ ap (sets _ (a.at + 2)) y)
