-- `ovfile_write::vertices::fits_signed` meets its contract. Assumes nothing.
use Rattle.std.specs.Prelude.{◌/◌}
use mathlib.Core.Path.{ap, ◌∙◌}
use lib.Signed.{lt_z_yes, lt_z_no}
use mir.Syntax.{w64}
use mir.ValLaws.{to_z-of_z}
use Rattle.seq.specs.Seq.{nat_abs, leb, ltb}
use Rattle.exact.specs.Mach.{trbs, taken, left}
use Rattle.ovfile_write.proofs.JudgeLaws.{signed_low, signed_high}
use Rattle.ovfile_write.proofs.vertices.fits_signed.Goals as goal

pub returns-then-z-lt0 : goal.returns-then-z-lt0
returns-then-z-lt0 c =
    let z = to_z-of_z w64 c.args.z c.ranges.z in
    (λ i. leb ((c.unsigned_abs.ensures.value ∙ ap nat_abs z) i) (c.numbers-half.ensures i / 2))
    ∙ signed_high c.args.width c.args.z (lt_z_yes (taken c.if-z-lt0.true (search trbs depth 20) tt))

pub returns-else-z-lt0 : goal.returns-else-z-lt0
returns-else-z-lt0 c =
    let z = to_z-of_z w64 c.args.z c.ranges.z in
    (λ i. ltb ((c.unsigned_abs-else-z-lt0.ensures.value ∙ ap nat_abs z) i) (c.numbers-half.ensures i / 2))
    ∙ signed_low c.args.width c.args.z (lt_z_no (left c.if-z-lt0.false (search trbs depth 20) tt))
