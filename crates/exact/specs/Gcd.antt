-- The greatest common divisor of two natural numbers (01: "Euclid's recursion on remainders, the second number falling"), and its laws: Euclid's two
-- equations, it divides both, every common divisor divides it, a common factor comes out. Then of three numbers, `gcd3`, and what it is to divide the
-- three by it: the divisor is then 1, and two triples with the divisor 1 and the same fractions are equal. Here a denominator is a natural number; Lowest
-- has the same for a point whose three numbers are whole. Assumes nothing.
use Rattle.std.specs.Prelude.{◌≡◌, refl, ℕ, zero, suc, ◌+◌, ◌*◌, ◌/◌, ◌%◌, ◌≤◌, ◌<◌, ℤ, pos, negsuc, neg_ℤ, nat_abs, ◌*ℤ◌, [], ◌∷◌}
use Rattle.std.proofs.Common.{sym, ◌∙◌, ap, subst, arith}
use Rattle.std.specs.Int.{◌∣◌}
use native.Mathlib.Nat.{not-suc-le-zero, one-mul, mul_assoc, add-mul, mod-lt, zero-lt-suc, div-add-mod', mul-lt-mul_of_pos_right, dvd_refl, dvd-zero, dvd_trans, dvd-mul_left, dvd-mul_right, dvd-mod_iff, dvd_antisymm, pos_of_dvd_of_pos, eq_of_mul-eq-mul_right, div-mul_cancel}
use Rattle.std.proofs.Math.Arith.{digits_mod}
use Rattle.std.proofs.Math.IntN.{*ℤ_comm}
use Rattle.exact.specs.Mul.{*-cancel-≡}
use Rattle.exact.specs.Abs.{abs-*, abs_neg}
use Rattle.exact.specs.Ring.{neg-*ℤ}
use Rattle.exact.specs.Solve.{ring, reify}
use Rattle.std.specs.Int.Signed.{quot_z}
pub use Rattle.exact.specs.Exact.{gcd_f, gcd_of, gcd3}

-- it computes
twelve : gcd_of 123456789012 9876543210 ≡ 6
unfolding gcd_of
twelve = refl

-- more fuel changes nothing
fuel : (f g a b : ℕ) → b ≤ f → b ≤ g → gcd_f f a b ≡ gcd_f g a b
unfolding gcd_f
fuel zero zero a b h l = refl
fuel zero (suc g) a zero h l = refl
fuel zero (suc g) a (suc b) h l = absurd (not-suc-le-zero h)
fuel (suc f) zero a zero h l = refl
fuel (suc f) zero a (suc b) h l = absurd (not-suc-le-zero l)
fuel (suc f) (suc g) a zero h l = refl
fuel (suc f) (suc g) a (suc b) h l = fuel f g (suc b) (a % suc b) (omega (arith, mod-lt a (zero-lt-suc b))) (omega (arith, mod-lt a (zero-lt-suc b)))

-- Euclid's two equations
pub gcd_zero : (a : ℕ) → gcd_of a 0 ≡ a
unfolding gcd_of
gcd_zero a = refl

pub gcd_step : (a b : ℕ) → 0 < b → gcd_of a b ≡ gcd_of b (a % b)
unfolding gcd_of gcd_f
gcd_step a zero h = absurd (not-suc-le-zero h)
gcd_step a (suc b) h = fuel b (a % suc b) (suc b) (a % suc b) (omega (arith, mod-lt a (zero-lt-suc b))) (omega arith)

-- what holds of (a, 0), and of (a, b) where it holds of (b, a % b), holds of every pair
pub gcd_ind : (P : ℕ → ℕ → Type 0) → ((a : ℕ) → P a 0) → ((a b : ℕ) → 0 < b → P b (a % b) → P a b) → (a b : ℕ) → P a b
gcd_ind P z s a b = go b a b (omega arith)
  where
    go : (f a b : ℕ) → b ≤ f → P a b
    go zero a zero h = z a
    go zero a (suc b) h = absurd (not-suc-le-zero h)
    go (suc f) a zero h = z a
    go (suc f) a (suc b) h = s a (suc b) (zero-lt-suc b) (go f (suc b) (a % suc b) (omega (arith, mod-lt a (zero-lt-suc b))))

-- ---- it divides both
pub gcd_both : (a b : ℕ) → (gcd_of a b ∣ a) × (gcd_of a b ∣ b)
gcd_both = gcd_ind (λ a b. (gcd_of a b ∣ a) × (gcd_of a b ∣ b))
    (λ a. rw (gcd_zero a) (dvd_refl a, dvd-zero a))
    (λ a b h p. rw (gcd_step a b h) ((dvd-mod_iff (gcd_of b (a % b)) p.0).0 p.1, p.0))

pub gcd_l : (a b : ℕ) → gcd_of a b ∣ a
gcd_l a b = (gcd_both a b).0

pub gcd_r : (a b : ℕ) → gcd_of a b ∣ b
gcd_r a b = (gcd_both a b).1

-- ---- and is the greatest: every common divisor divides it
pub gcd_greatest : (d a b : ℕ) → d ∣ a → d ∣ b → d ∣ gcd_of a b
gcd_greatest d = gcd_ind (λ a b. d ∣ a → d ∣ b → d ∣ gcd_of a b)
    (λ a p q. rw (gcd_zero a) p)
    (λ a b h f p q. rw (gcd_step a b h) (f q ((dvd-mod_iff d q).1 p)))

-- ---- a common factor comes out
mod_mul_r : (a b c : ℕ) → 0 < b → 0 < c → a * c % (b * c) ≡ a % b * c
mod_mul_r a b c h l =
    ap (λ (x : ℕ). x % (b * c)) (ap (λ (x : ℕ). x * c) (sym (div-add-mod' a b)) ∙ add-mul (a / b * b) (a % b) c ∙ ap (λ (x : ℕ). x + a % b * c) (mul_assoc (a / b) b c))
    ∙ digits_mod (a / b) (mul-lt-mul_of_pos_right (mod-lt a h) l)

pub gcd_mul : (c : ℕ) → 0 < c → (a b : ℕ) → gcd_of (a * c) (b * c) ≡ gcd_of a b * c
gcd_mul c l = gcd_ind (λ a b. gcd_of (a * c) (b * c) ≡ gcd_of a b * c)
    (λ a. ap (gcd_of (a * c)) (zero-times c) ∙ gcd_zero (a * c) ∙ ap (λ (x : ℕ). x * c) (sym (gcd_zero a)))
    (λ a b h p. gcd_step (a * c) (b * c) (pos-times b c h l) ∙ ap (gcd_of (b * c)) (mod_mul_r a b c h l) ∙ p ∙ ap (λ (x : ℕ). x * c) (sym (gcd_step a b h)))
  where
    zero-times : (c : ℕ) → 0 * c ≡ 0
    zero-times c = omega arith

    pos-times : (b c : ℕ) → 0 < b → 0 < c → 0 < b * c
    pos-times b c h l = native.Mathlib.Nat.mul-pos h l

-- ---- a triple in lowest terms
pub gcd3-mul : (c : ℕ) → 0 < c → (x y d : ℕ) → gcd3 (x * c) (y * c) (d * c) ≡ gcd3 x y d * c
gcd3-mul c l x y d = ap (λ (g : ℕ). gcd_of g (d * c)) (gcd_mul c l x y) ∙ gcd_mul c l (gcd_of x y) d

pub gcd3_x : (x y d : ℕ) → gcd3 x y d ∣ x
gcd3_x x y d = dvd_trans (gcd3 x y d) (gcd_l (gcd_of x y) d) (gcd_l x y)

pub gcd3_y : (x y d : ℕ) → gcd3 x y d ∣ y
gcd3_y x y d = dvd_trans (gcd3 x y d) (gcd_l (gcd_of x y) d) (gcd_r x y)

pub gcd3_d : (x y d : ℕ) → gcd3 x y d ∣ d
gcd3_d x y d = gcd_r (gcd_of x y) d

pub gcd3-greatest : (c x y d : ℕ) → c ∣ x → c ∣ y → c ∣ d → c ∣ gcd3 x y d
gcd3-greatest c x y d p q r = gcd_greatest c (gcd_of x y) d (gcd_greatest c x y p q) r

pub gcd3-pos : (x y d : ℕ) → 0 < d → 0 < gcd3 x y d
gcd3-pos x y d h = pos_of_dvd_of_pos (gcd3_d x y d) h

-- divided by their gcd the three have the gcd 1
pub gcd3_reduced : (x y d : ℕ) → 0 < d → gcd3 (x / gcd3 x y d) (y / gcd3 x y d) (d / gcd3 x y d) ≡ 1
gcd3_reduced x y d h =
    eq_of_mul-eq-mul_right (gcd3 x y d) (gcd3-pos x y d h) _ _
    (sym (gcd3-mul (gcd3 x y d) (gcd3-pos x y d h) (x / gcd3 x y d) (y / gcd3 x y d) (d / gcd3 x y d))
    ∙ (λ i. gcd3 (div-mul_cancel (gcd3 x y d) (gcd3_x x y d) i) (div-mul_cancel (gcd3 x y d) (gcd3_y x y d) i) (div-mul_cancel (gcd3 x y d) (gcd3_d x y d) i))
    ∙ sym (one-mul (gcd3 x y d)))

-- ---- lowest terms are unique
-- d ∣ d': d divides x·d', y·d' and d·d', so their gcd, which is 1·d'
dvd_of : (x y d x' y' d' : ℕ) → 0 < d' → gcd3 x y d ≡ 1 → x * d' ≡ x' * d → y * d' ≡ y' * d → d ∣ d'
dvd_of x y d x' y' d' h g e f =
    subst (λ (n : ℕ). d ∣ n) (gcd3-mul d' h x y d ∙ ap (λ (n : ℕ). n * d') g ∙ one-mul d')
    (gcd3-greatest d (x * d') (y * d') (d * d') (subst (λ (n : ℕ). d ∣ n) (sym e) (dvd-mul_left d x')) (subst (λ (n : ℕ). d ∣ n) (sym f) (dvd-mul_left d y')) (dvd-mul_right d d'))

pub lowest_d : (x y d x' y' d' : ℕ) → 0 < d → 0 < d' → gcd3 x y d ≡ 1 → gcd3 x' y' d' ≡ 1 → x * d' ≡ x' * d → y * d' ≡ y' * d → d ≡ d'
lowest_d x y d x' y' d' h h' g g' e f = dvd_antisymm (dvd_of x y d x' y' d' h' g e f) (dvd_of x' y' d' x y d h g' (sym e) (sym f))

-- a fraction pair X/D, Y/D with D > 0, in lowest terms
pub record Lowest (X Y : ℤ) (D : ℕ) : Type 0 where
  pub positive : 0 < D
  pub coprime : gcd3 (nat_abs X) (nat_abs Y) D ≡ 1

cross-abs : (X X' : ℤ) (D D' : ℕ) → X *ℤ pos D' ≡ X' *ℤ pos D → nat_abs X * D' ≡ nat_abs X' * D
cross-abs X X' D D' e = sym (abs-* X (pos D')) ∙ ap nat_abs e ∙ abs-* X' (pos D)

pos-ne : (D : ℕ) → 0 < D → pos D ≡ pos 0 → ⊥
pos-ne D h e = omega (arith, ap nat_abs e)

-- two of them with the same values are the same
pub lowest-unique : (X Y : ℤ) (D : ℕ) (X' Y' : ℤ) (D' : ℕ) → Lowest X Y D → Lowest X' Y' D' → X *ℤ pos D' ≡ X' *ℤ pos D → Y *ℤ pos D' ≡ Y' *ℤ pos D → (X ≡ X') × (Y ≡ Y') × (D ≡ D')
lowest-unique X Y D X' Y' D' l l' e f = (same X X' e, same Y Y' f, d)
  where
    d : D ≡ D'
    d = lowest_d (nat_abs X) (nat_abs Y) D (nat_abs X') (nat_abs Y') D' l.positive l'.positive l.coprime l'.coprime (cross-abs X X' D D' e) (cross-abs Y Y' D D' f)

    same : (X X' : ℤ) → X *ℤ pos D' ≡ X' *ℤ pos D → X ≡ X'
    same X X' e = *-cancel-≡ (pos D) X X' (pos-ne D l.positive) (*ℤ_comm (pos D) X ∙ ap (λ (n : ℕ). X *ℤ pos n) d ∙ e ∙ *ℤ_comm X' (pos D))

-- ---- exact division of an integer
pub abs_quot : (x : ℤ) (g : ℕ) → nat_abs (quot_z x (pos g)) ≡ nat_abs x / g
abs_quot (pos a) g = refl
abs_quot (negsuc a) g = abs_neg (pos (suc a / g))

pub quot_exact : (x : ℤ) (g : ℕ) → g ∣ nat_abs x → quot_z x (pos g) *ℤ pos g ≡ x
quot_exact (pos a) g h = ap pos (div-mul_cancel g h)
quot_exact (negsuc a) g h = neg-*ℤ (pos (suc a / g)) (pos g) ∙ ap (λ (n : ℕ). neg_ℤ (pos n)) (div-mul_cancel g h)

-- dividing X, Y and D > 0 by their gcd gives lowest terms of the same value
module _ (X Y : ℤ) (D : ℕ) (h : 0 < D) where
  abbrev pub g3 : ℕ
  g3 = gcd3 (nat_abs X) (nat_abs Y) D

  pub reduce-lowest : Lowest (quot_z X (pos g3)) (quot_z Y (pos g3)) (D / g3)
  reduce-lowest = record { positive = quot_pos; coprime = (λ i. gcd3 (abs_quot X g3 i) (abs_quot Y g3 i) (D / g3)) ∙ gcd3_reduced (nat_abs X) (nat_abs Y) D h }
    where
      quot_pos : 0 < D / g3
      quot_pos = go (D / g3) (div-mul_cancel g3 (gcd3_d (nat_abs X) (nat_abs Y) D))
        where
          go : (q : ℕ) → q * g3 ≡ D → 0 < q
          go zero e = omega arith
          go (suc q) e = zero-lt-suc q

  -- (X / g) · D = X · (D / g)
  same_by : (Z : ℤ) → g3 ∣ nat_abs Z → quot_z Z (pos g3) *ℤ pos D ≡ Z *ℤ pos (D / g3)
  same_by Z p =
      ap (λ (n : ℕ). quot_z Z (pos g3) *ℤ pos n) (sym (div-mul_cancel g3 (gcd3_d (nat_abs X) (nat_abs Y) D)))
      ∙ swap (quot_z Z (pos g3)) (pos (D / g3)) (pos g3)
      ∙ ap (λ (t : ℤ). t *ℤ pos (D / g3)) (quot_exact Z g3 p)
    where
      swap : (q e g : ℤ) → q *ℤ (e *ℤ g) ≡ (q *ℤ g) *ℤ e
      swap q e g = ring (q ∷ e ∷ g ∷ []) (search reify depth 20) tt

  pub reduce_x : quot_z X (pos g3) *ℤ pos D ≡ X *ℤ pos (D / g3)
  reduce_x = same_by X (gcd3_x (nat_abs X) (nat_abs Y) D)

  pub reduce_y : quot_z Y (pos g3) *ℤ pos D ≡ Y *ℤ pos (D / g3)
  reduce_y = same_by Y (gcd3_y (nat_abs X) (nat_abs Y) D)
