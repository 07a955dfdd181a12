-- What the ranges mean in whole numbers: a float m · 2 ^ e, which is the fraction m · up e / down e, is in a range exactly where its numerator and its
-- denominator say so; with a minus sign only a zero is, and no NaN and no infinity. Assumes nothing.
use Rattle.std.specs.Prelude.{◌≡◌, refl, ◌≤◌, ◌<◌, T, eqb, ◌&&◌, ◌||◌, ◌*◌}
use Rattle.std.proofs.Common.{subst, inl, inr, eq-or-lt_of_le, arith, lt→ltb, eqb→eq}
use Rattle.std.proofs.Math.Dec.{eqb_refl}
use Rattle.std.specs.Float.{inf, fin}
use Rattle.std.specs.Float.Ieee.{up, down, le}
use Rattle.std.specs.Float.Ieee.Fits.{and_i, and_l, and_r, down_pos}
use Rattle.seq.specs.Seq.{Bool, true, false, ℕ, ltb, ℤ, pos, negsuc}
use Rattle.paper.specs.Tide.{ratio_in, weight_in}
use Rattle.laws_tide.specs.AtMost.{le_or_eq}

-- ── a comparison of two fractions ──

of_le : (a b : ℕ) → a ≤ b → T (ltb a b || (eqb a b && true))
of_le a b h = elim (eq-or-lt_of_le h) [ inl e ↦ right (ltb a b) (eqb a b && true) (and_i (eqb a b) true (subst (λ (k : ℕ). T (eqb a k)) e (eqb_refl a)) tt) | inr l ↦ left (ltb a b) (eqb a b && true) (lt→ltb a b l) ]
  where
    left : (p q : Bool) → T p → T (p || q)
    left true q t = tt
    left false q t = absurd t

    right : (p q : Bool) → T q → T (p || q)
    right true q t = tt
    right false q t = t

-- ── a ratio: not negative, and its numerator n and denominator d have  d ≤ 4 n  and  n ≤ 4 d ──

pub ratio-means : (m : ℕ) (e : ℤ) → T (ratio_in (fin false m e)) → (down e ≤ 4 * (m * up e)) × (m * up e ≤ 4 * down e)
unfolding le
ratio-means m e t =
    let n = m * up e in
    let d = down e in
    let l = le (fin false 1 (negsuc 1)) (fin false m e) in
    let u = le (fin false m e) (fin false 1 (pos 2)) in
    (low n d (le_or_eq (1 * 1 * d) (n * 4) true (and_l l u t)), high n d (le_or_eq (n * 1) (1 * 4 * d) true (and_r l u t)))
  where
    low : (n d : ℕ) → 1 * 1 * d ≤ n * 4 → d ≤ 4 * n
    low n d h = omega arith

    high : (n d : ℕ) → n * 1 ≤ 1 * 4 * d → n ≤ 4 * d
    high n d h = omega arith

pub ratio_is_in : (m : ℕ) (e : ℤ) → down e ≤ 4 * (m * up e) → m * up e ≤ 4 * down e → T (ratio_in (fin false m e))
unfolding le
ratio_is_in m e p q =
    let n = m * up e in
    let d = down e in
    and_i (le (fin false 1 (negsuc 1)) (fin false m e)) (le (fin false m e) (fin false 1 (pos 2))) (of_le (1 * 1 * d) (n * 4) (low n d p)) (of_le (n * 1) (1 * 4 * d) (high n d q))
  where
    low : (n d : ℕ) → d ≤ 4 * n → 1 * 1 * d ≤ n * 4
    low n d h = omega arith

    high : (n d : ℕ) → n ≤ 4 * d → n * 1 ≤ 1 * 4 * d
    high n d h = omega arith

-- ── a weight: not negative, and n ≤ d ──

pub weight-means : (m : ℕ) (e : ℤ) → T (weight_in (fin false m e)) → m * up e ≤ down e
unfolding le
weight-means m e t =
    let l = le (fin false 0 (pos 0)) (fin false m e) in
    let u = le (fin false m e) (fin false 1 (pos 0)) in
    high (m * up e) (down e) (le_or_eq (m * up e * 1) (1 * 1 * down e) true (and_r l u t))
  where
    high : (n d : ℕ) → n * 1 ≤ 1 * 1 * d → n ≤ d
    high n d h = omega arith

pub weight_is_in : (m : ℕ) (e : ℤ) → m * up e ≤ down e → T (weight_in (fin false m e))
unfolding le
weight_is_in m e h =
    let n = m * up e in
    let d = down e in
    and_i (le (fin false 0 (pos 0)) (fin false m e)) (le (fin false m e) (fin false 1 (pos 0))) (of_le (0 * 1 * d) (n * 1) (low n d)) (of_le (n * 1) (1 * 1 * d) (high n d h))
  where
    low : (n d : ℕ) → 0 * 1 * d ≤ n * 1
    low n d = omega arith

    high : (n d : ℕ) → n ≤ d → n * 1 ≤ 1 * 1 * d
    high n d h = omega arith

-- ── with a minus sign ──

pub ratio_not_negative : (m : ℕ) (e : ℤ) → T (ratio_in (fin true m e)) → ⊥
unfolding le
ratio_not_negative m e t =
    let a = 1 * 1 * down e in
    let b = m * up e * 4 in
    let u = and_l (le (fin false 1 (negsuc 1)) (fin true m e)) (le (fin true m e) (fin false 1 (pos 2))) t in
    some (down e) (down_pos e) (eqb→eq a 0 (and_r (eqb a b) (eqb a 0) u))
  where
    some : (d : ℕ) → 0 < d → 1 * 1 * d ≡ 0 → ⊥
    some d p h = omega arith

pub weight-negative : (m : ℕ) (e : ℤ) → T (weight_in (fin true m e)) → m * up e ≡ 0
unfolding le
weight-negative m e t =
    let a = 0 * 1 * down e in
    let b = m * up e * 1 in
    let u = and_l (le (fin false 0 (pos 0)) (fin true m e)) (le (fin true m e) (fin false 1 (pos 0))) t in
    none (m * up e) a (eqb→eq a b (and_l (eqb a b) (eqb a 0) u)) (eqb→eq a 0 (and_r (eqb a b) (eqb a 0) u))
  where
    none : (n a : ℕ) → a ≡ n * 1 → a ≡ 0 → n ≡ 0
    none n a p q = omega arith

-- ── infinities ──

pub ratio-finite : (s : Bool) → ratio_in (inf s) ≡ false
unfolding le
ratio-finite true = refl
ratio-finite false = refl

pub weight-finite : (s : Bool) → weight_in (inf s) ≡ false
unfolding le
weight-finite true = refl
weight-finite false = refl
