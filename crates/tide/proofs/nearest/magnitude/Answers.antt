-- `tide::nearest::magnitude` meets its contract. Assumes nothing.
use mathlib.Core.Path.{ap, ◌∙◌}
use Prim.Native.Nat.{ℕ, ◌+◌, ◌-◌, ◌/◌, ◌^◌, ◌≤◌, ◌<◌}
use native.Mathlib.Omega.{arith}
use Rattle.laws_tide.specs.Pattern.{field, digits, whole-small, whole-large, one_shl, half-unit}
use Rattle.tide.proofs.nearest.magnitude.Goals as goal

pub returns-then-field-lt1022 : goal.returns-then-field-lt1022
returns-then-field-lt1022 c = whole-small c.args.bits c.if-field-lt1022.true

small : (x : ℕ) → 1022 ≤ x → 1074 - x < 64
small x h = omega arith

pub overflow_add-result-2 : goal.overflow_add-result-2
overflow_add-result-2 c =
    let x = field c.args.bits in
    let e = one_shl (1074 - x) (small x c.if-field-lt1022.false) in
    let p = half-unit x c.if-field-lt1022.false in
    record { fits = rw e (omega arith) }

pub returns : goal.returns
returns c =
    let b = c.args.bits in
    let x = field b in
    ap (λ (k : ℕ). (2 ^ 52 + digits b + k) / 2 ^ (1075 - x)) (one_shl (1074 - x) (small x c.if-field-lt1022.false)) ∙ whole-large b c.if-field-lt1022.false
