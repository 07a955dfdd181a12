-- `ovfile::bytes::twos` meets its contract. Assumes nothing.
use Rattle.std.specs.Prelude.{◌-◌}
use mathlib.Core.Path.{◌≡◌, ap, ◌∙◌}
use native.Mathlib.Omega.{arith}
use lib.Signed.{lt_z_yes, lt_z_no}
use mir.Syntax.{w64}
use mir.ValLaws.{to_z-of_z}
use Rattle.seq.specs.Seq.{nat_abs}
use Rattle.exact.specs.Mach.{trbs, taken, left}
use Rattle.ovfile.proofs.BytesLaws.{wrapped_low, wrapped_high}
use Rattle.ovfile.proofs.bytes.twos.Goals as goal
use Rattle.ovfile.proofs.bytes.twos.Goals.{After-unsigned_abs, Start}

unsigned_abs-is : (c : After-unsigned_abs) → c.unsigned_abs.result ≡ nat_abs c.args.z
unsigned_abs-is c = c.unsigned_abs.ensures.value ∙ ap nat_abs (to_z-of_z w64 c.args.z c.ranges.z)

pub overflow_sub-result : goal.overflow_sub-result
overflow_sub-result c = omega (arith, unsigned_abs-is (goal.at.overflow_sub-result c).After-unsigned_abs)

pub returns-then-z-lt0 : goal.returns-then-z-lt0
returns-then-z-lt0 c =
    let a = c.args in
    (λ i. c.numbers.ensures i - unsigned_abs-is (goal.at.returns-then-z-lt0 c).After-unsigned_abs i)
    ∙ wrapped_high a.width a.z (lt_z_yes (taken c.if-z-lt0.true (search trbs depth 20) tt))

pub returns-else-z-lt0 : goal.returns-else-z-lt0
returns-else-z-lt0 c =
    c.unsigned_abs-else-z-lt0.ensures.value ∙ ap nat_abs (to_z-of_z w64 c.args.z c.ranges.z)
    ∙ wrapped_low c.args.width c.args.z (lt_z_no (left c.if-z-lt0.false (search trbs depth 20) tt))
