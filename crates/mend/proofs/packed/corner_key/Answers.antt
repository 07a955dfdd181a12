-- `mend::packed::corner_key` meets its contract: a corner within reach fits two bytes and two. Assumes nothing.
use Rattle.std.specs.Prelude.{◌+◌, ◌*◌}
use mathlib.Core.Path.{◌≡◌, ap, ◌∙◌}
use Prim.Native.Nat.{◌<◌}
use native.Mathlib.Omega.{arith}
use mir.Syntax.{w64}
use mir.ValLaws.{to_z-of_z}
use Rattle.seq.specs.Seq.{nat_abs}
use Rattle.laws_file.specs.Bytes.{wrapped}
use Rattle.map_check.specs.Parts.{corner_in}
use Rattle.mend.proofs.KeyLaws.{wrapped_below}
use Rattle.mend.proofs.packed.corner_key.Goals as goal
use Rattle.mend.proofs.packed.corner_key.Goals.{After-twos-y}

pub twos-x-requires : goal.twos-x-requires
twos-x-requires c =
    (omega arith, omega (arith, ap nat_abs (to_z-of_z w64 _ (record { sfits = c.vertex_cell.type_inv }) ∙ c.vertex_cell.ensures), c.requires.x_is))

pub twos-y-requires : goal.twos-y-requires
twos-y-requires c =
    (omega arith, omega (arith, ap nat_abs (to_z-of_z w64 _ (record { sfits = c.vertex_cell-2.type_inv }) ∙ c.vertex_cell-2.ensures), c.requires.y_is))

x_is : (c : After-twos-y) → c.twos-x.result ≡ wrapped 2 (corner_in c.args.points.now c.args.v).x
x_is c = c.twos-x.ensures ∙ ap (wrapped 2) (to_z-of_z w64 _ (record { sfits = c.vertex_cell.type_inv }) ∙ c.vertex_cell.ensures)

y_is : (c : After-twos-y) → c.twos-y.result ≡ wrapped 2 (corner_in c.args.points.now c.args.v).y
y_is c = c.twos-y.ensures ∙ ap (wrapped 2) (to_z-of_z w64 _ (record { sfits = c.vertex_cell-2.type_inv }) ∙ c.vertex_cell-2.ensures)

x_below : (c : After-twos-y) → c.twos-x.result < 65536
x_below c = omega (arith, x_is c, wrapped_below (corner_in c.args.points.now c.args.v).x c.requires.x_is)

y-below : (c : After-twos-y) → c.twos-y.result < 65536
y-below c = omega (arith, y_is c, wrapped_below (corner_in c.args.points.now c.args.v).y c.requires.y_is)

pub returns : goal.returns
returns c = λ i. x_is c i + 65536 * y_is c i

pub overflow_mul-result : goal.overflow_mul-result
overflow_mul-result c = omega (arith, y-below c)

pub overflow_add-result : goal.overflow_add-result
overflow_add-result c = omega (arith, x_below c, y-below c)

pub overflow_cast-result : goal.overflow_cast-result
overflow_cast-result c = omega (arith, x_below c, y-below c)
