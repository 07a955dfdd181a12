-- The magnitude |z| of a whole number, `nat_abs z`: of a negation, a sum and a product; as a bound from both sides; and of a sum, product, quotient and
-- remainder of numbers with bounds. Assumes nothing.
use Rattle.std.specs.Prelude.{◌≡◌, refl, ℕ, zero, suc, ◌+◌, ◌*◌, ◌/◌, ◌%◌, ◌≤◌, ◌<◌, ℤ, pos, negsuc, neg_ℤ, nat_abs, ◌+ℤ◌, ◌-ℤ◌, ◌*ℤ◌, ◌≤ℤ◌, ◌<ℤ◌}
use Rattle.std.proofs.Common.{◌∙◌, ap, le_trans, le_of_eq, mul-le-mul, div-le_self, arith}
use Rattle.std.proofs.Math.Nat.{mod-le}
use Rattle.std.proofs.Math.IntN.{+ℤ_idl}
use Rattle.std.specs.Int.Signed.{quot_z, rem_z, pos-nat_abs, yes_non_neg}
use Rattle.exact.specs.Parts.{pp, np, is-+, is_neg_lem, ≤-to, ≤-of, <-pos, pos≮0}

-- ---- of a negation, a sum, a product
abs_is : (z : ℤ) → nat_abs z ≡ pp z + np z
abs_is (pos n) = omega arith
abs_is (negsuc n) = omega arith

one_zero : (z : ℤ) (a b : ℕ) → pp z + b ≡ np z + a → nat_abs z ≤ a + b
one_zero (pos n) a b e = omega arith
one_zero (negsuc n) a b e = omega arith

pub abs_neg : (z : ℤ) → nat_abs (neg_ℤ z) ≡ nat_abs z
abs_neg (pos zero) = refl
abs_neg (pos (suc n)) = refl
abs_neg (negsuc n) = refl

pub abs-+ : (x y : ℤ) → nat_abs (x +ℤ y) ≤ nat_abs x + nat_abs y
abs-+ x y = omega (arith, one_zero (x +ℤ y) (pp x + pp y) (np x + np y) (is-+ x y), abs_is x, abs_is y)

pub abs-* : (x y : ℤ) → nat_abs (x *ℤ y) ≡ nat_abs x * nat_abs y
abs-* (pos a) (pos b) = refl
abs-* (pos a) (negsuc b) = abs_neg (pos (a * suc b))
abs-* (negsuc a) (pos b) = abs_neg (pos (suc a * b))
abs-* (negsuc a) (negsuc b) = refl

-- 0 - x, as the machine has -x
pub abs-0- : (x : ℤ) → nat_abs (pos 0 -ℤ x) ≡ nat_abs x
abs-0- x = ap nat_abs (+ℤ_idl (neg_ℤ x)) ∙ abs_neg x

-- of a number that is not negative, and of one that is
pub abs_is_self : (x : ℤ) → pos 0 ≤ℤ x → pos (nat_abs x) ≡ x
abs_is_self x h = pos-nat_abs x (yes_non_neg h)

pub abs_is_neg : (x : ℤ) → x <ℤ pos 0 → pos (nat_abs x) ≡ neg_ℤ x
abs_is_neg (pos n) h = absurd (pos≮0 n h)
abs_is_neg (negsuc n) h = refl

pub abs-pos : (d : ℤ) → pos 0 <ℤ d → 0 < nat_abs d
abs-pos (pos n) h = <-pos 0 n h
abs-pos (negsuc n) h = absurd h.lt

-- ---- |z| ≤ B is -B ≤ z ≤ B
pub abs-hi : (z : ℤ) (B : ℕ) → nat_abs z ≤ B → z ≤ℤ pos B
abs-hi z B h = ≤-of z (pos B) (omega (arith, abs_is z))

pub abs-lo : (z : ℤ) (B : ℕ) → nat_abs z ≤ B → neg_ℤ (pos B) ≤ℤ z
abs-lo z B h = ≤-of (neg_ℤ (pos B)) z (omega (arith, abs_is z, is_neg_lem (pos B)))

pub abs_of : (z : ℤ) (B : ℕ) → neg_ℤ (pos B) ≤ℤ z → z ≤ℤ pos B → nat_abs z ≤ B
abs_of (pos n) B l h = omega (arith, ≤-to (pos n) (pos B) h)
abs_of (negsuc n) B l h = omega (arith, ≤-to (neg_ℤ (pos B)) (negsuc n) l, is_neg_lem (pos B))

-- ---- of what has a bound
pub bd-+ : (x y : ℤ) (A B : ℕ) → nat_abs x ≤ A → nat_abs y ≤ B → nat_abs (x +ℤ y) ≤ A + B
bd-+ x y A B h l = omega (arith, abs-+ x y)

pub bd-* : (x y : ℤ) (A B : ℕ) → nat_abs x ≤ A → nat_abs y ≤ B → nat_abs (x *ℤ y) ≤ A * B
bd-* x y A B h l = le_trans (le_of_eq (abs-* x y)) (mul-le-mul h l)

-- division toward zero does not make a number larger
pub bd_quot : (x y : ℤ) (B : ℕ) → nat_abs x ≤ B → nat_abs (quot_z x y) ≤ B
bd_quot (pos a) (pos b) B h = le_trans (div-le_self a b) h
bd_quot (pos a) (negsuc b) B h = le_trans (le_of_eq (abs_neg (pos (a / suc b)))) (le_trans (div-le_self a (suc b)) h)
bd_quot (negsuc a) (pos b) B h = le_trans (le_of_eq (abs_neg (pos (suc a / b)))) (le_trans (div-le_self (suc a) b) h)
bd_quot (negsuc a) (negsuc b) B h = le_trans (div-le_self (suc a) (suc b)) h

-- nor does the remainder
pub bd-rem : (x y : ℤ) (B : ℕ) → nat_abs x ≤ B → nat_abs (rem_z x y) ≤ B
bd-rem (pos a) y B h = le_trans (mod-le a (nat_abs y)) h
bd-rem (negsuc a) y B h = le_trans (le_of_eq (abs_neg (pos (suc a % nat_abs y)))) (le_trans (mod-le (suc a) (nat_abs y)) h)
