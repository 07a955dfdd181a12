-- The nearest whole number from a float's bits: the pattern b of a finite float of magnitude below 2 ^ 31 has its sign in the highest bit, an exponent's field
-- of 11 bits and 52 digits. From the field 1022 on the magnitude is (2 ^ 52 + digits) / 2 ^ (1075 - field), and below that it is less than a half. Assumes
-- nothing.
use Rattle.std.specs.Prelude.{◌≡◌, refl, zero, suc, ◌^◌, ◌≤◌, ◌<◌, T, eqb, Float, ◌+◌, ◌*◌, ◌-◌, ◌/◌, ◌%◌}
use Rattle.std.proofs.Common.{sym, ap, ◌∙◌, subst, zero-le, le_trans, le_of_eq, lt_of_lt_of_le, lt_of_le_of_lt, lt_of_not-le, lt_irrefl, not-le_of_lt, mul_comm, mul_assoc, mul_left_comm, mul_right_comm, mul-le-mul_right, le_of_mul-le-mul_right, one-mul, mul-pos, add-mul, le-add_right, mod-lt, mul-lt-mul_of_pos_right, mod-eq_of_lt, arith, ltb→lt, lt→ltb, le→leb, nltb→le, lit≤, lit<, pow-add, pow_pos, pow_mono, shl_lt}
use Rattle.std.proofs.Math.Nat.{div-eq_of_lt, pow-succ'}
use Rattle.std.proofs.Math.Arith.{lt→nleb}
use Rattle.std.proofs.Math.Pow.{pow-lt}
use Rattle.std.specs.Float.{nan, inf, fin, binary64}
use Rattle.std.specs.Float.Ieee.{up, down, odd, fits, is_nan, of_fields, of_bits, to_bits}
use Rattle.std.specs.Float.Ieee.Fits.{down_pos}
use Rattle.std.specs.Float.Ieee.Bits.{of_bits-to_bits, is_true, is_false}
use Rattle.std.specs.Float.Ieee.Exact.{HasValue, odd_sign}
use Rattle.std.specs.Float.Ieee.Nearest.{div_same}
use Rattle.seq.specs.Seq.{Bool, true, false, cond, not, ℕ, leb, ltb, pos, neg_ℤ, nat_abs}
use Rattle.paper.specs.Tide.{signed, the_half_up, nearest_whole}
use Rattle.laws_tide.specs.Nearest.{twice, abs-signed}
use Rattle.laws_tide.specs.AtMost.{AtMost}
use Rattle.laws_tide.specs.Bound.{nearest_at_most}

abbrev pub negative : ℕ → Bool
negative b = leb (2 ^ 63) b

abbrev pub field : ℕ → ℕ
field b = b % 2 ^ 63 / 2 ^ 52

abbrev pub digits : ℕ → ℕ
digits b = b % 2 ^ 52

abbrev whole_by : ℕ → ℕ → ℕ
whole_by x t = cond (ltb x 1022) 0 ((2 ^ 52 + t + 2 ^ (1074 - x)) / 2 ^ (1075 - x))

abbrev pub whole_of : ℕ → ℕ
whole_of b = whole_by (field b) (digits b)

-- ── rounding sees only the value of a fraction ──

cross : (n d a l : ℕ) → n * l ≡ a * d → (2 * n + d) * (2 * l) ≡ (2 * a + l) * (2 * d)
cross n d a l e =
    let x : (2 * n + d) * (2 * l) ≡ 2 * n * (2 * l) + d * (2 * l) = add-mul (2 * n) d (2 * l) in
    let y : (2 * a + l) * (2 * d) ≡ 2 * a * (2 * d) + l * (2 * d) = add-mul (2 * a) l (2 * d) in
    let p : 2 * n * (2 * l) ≡ 2 * (2 * (n * l)) = simp (mul_assoc, mul_left_comm) in
    let q : 2 * a * (2 * d) ≡ 2 * (2 * (a * d)) = simp (mul_assoc, mul_left_comm) in
    let r : d * (2 * l) ≡ l * (2 * d) = simp (mul_comm, mul_left_comm) in
    omega arith

pub half_up_same : (n d a l : ℕ) → 0 < d → 0 < l → n * l ≡ a * d → the_half_up n d ≡ the_half_up a l
half_up_same n d a l D L e = div_same (2 * n + d) (2 * d) (2 * a + l) (2 * l) (twice d D) (twice l L) (cross n d a l e)

near_of_value : (v : Float) (s : Bool) (a l : ℕ) → 0 < l → HasValue v s a l → nearest_whole v ≡ signed s (the_half_up a l)
unfolding nearest_whole
near_of_value nan s a l L h = absurd h
near_of_value (inf t) s a l L h = absurd h
near_of_value (fin t m e) s a l L h = (λ i. signed (h.0 i) (the_half_up (m * up e) (down e))) ∙ ap (signed s) (half_up_same (m * up e) (down e) a l (down_pos e) L h.1)

value_at_most : (v : Float) (s : Bool) (a l B : ℕ) → 0 < l → HasValue v s a l → AtMost B v → a ≤ B * l
value_at_most nan s a l B L h p = absurd h
value_at_most (inf t) s a l B L h p = absurd h
value_at_most (fin t m e) s a l B L h p = le_of_mul-le-mul_right (le_trans (le_of_eq (sym h.1)) (le_trans (mul-le-mul_right l p) (le_of_eq (mul_right_comm B (down e) l)))) (down_pos e)

-- ── less than a half, and shifted digits ──

half_up_none : (a l : ℕ) → 2 * a < l → the_half_up a l ≡ 0
half_up_none a l h = div-eq_of_lt (less a l h)
  where
    less : (a l : ℕ) → 2 * a < l → 2 * a + l < 2 * l
    less a l h = omega arith

rescaled : (q p h : ℕ) → (q + h) * (2 * (p * (2 * h))) ≡ (2 * (q * p) + p * (2 * h)) * (2 * h)
rescaled q p h =
    let x : (q + h) * (2 * (p * (2 * h))) ≡ q * (2 * (p * (2 * h))) + h * (2 * (p * (2 * h))) = add-mul q h (2 * (p * (2 * h))) in
    let y : (2 * (q * p) + p * (2 * h)) * (2 * h) ≡ 2 * (q * p) * (2 * h) + p * (2 * h) * (2 * h) = add-mul (2 * (q * p)) (p * (2 * h)) (2 * h) in
    let u : q * (2 * (p * (2 * h))) ≡ 2 * (q * p) * (2 * h) = simp (mul_assoc, mul_left_comm) in
    let v : h * (2 * (p * (2 * h))) ≡ p * (2 * h) * (2 * h) = simp (mul_assoc, mul_left_comm) in
    omega arith

shifted : (q j d : ℕ) → j + suc d ≡ 1074 → the_half_up (q * 2 ^ j) (2 ^ 1074) ≡ (q + 2 ^ d) / 2 ^ suc d
shifted q j d e =
    let l : 2 ^ 1074 ≡ 2 ^ j * (2 * 2 ^ d) = ap (λ (k : ℕ). 2 ^ k) (sym e) ∙ pow-add 2 j (suc d) ∙ ap (λ (k : ℕ). 2 ^ j * k) (pow-succ' 2 d) in
    let D : 0 < 2 * 2 ^ d = twice (2 ^ d) (pow_pos d) in
    ap (λ (k : ℕ). the_half_up (q * 2 ^ j) k) l
    ∙ sym (div_same (q + 2 ^ d) (2 * 2 ^ d) (2 * (q * 2 ^ j) + 2 ^ j * (2 * 2 ^ d)) (2 * (2 ^ j * (2 * 2 ^ d))) D (twice (2 ^ j * (2 * 2 ^ d)) (mul-pos (pow_pos j) D)) (rescaled q (2 ^ j) (2 ^ d)))
    ∙ ap (λ (k : ℕ). (q + 2 ^ d) / k) (sym (pow-succ' 2 d))

-- ── by the fields ──

with_lead : (t : ℕ) → t < 2 ^ 52 → 2 ^ 52 + t < 2 ^ 53
with_lead t h = omega arith

pow_lt_back : (i p : ℕ) → 2 ^ i < 2 ^ p → i < p
pow_lt_back i p h = lt_of_not-le (λ (g : p ≤ i). lt_irrefl (2 ^ i) (lt_of_lt_of_le h (pow_mono g)))

-- twice q · 2 ^ j, where q has 53 digits at most
doubled-lt : (q j : ℕ) → q < 2 ^ 53 → j ≤ 1020 → 2 * (q * 2 ^ j) < 2 ^ 1074
doubled-lt q j h k =
    lt_of_lt_of_le (go (q * 2 ^ j) (2 ^ (53 + j)) (shl_lt 53 j h))
    (le_trans (le_of_eq (sym (pow-succ' 2 (53 + j)))) (pow_mono (room j k)))
  where
    go : (a b : ℕ) → a < b → 2 * a < 2 * b
    go a b h = omega arith

    room : (j : ℕ) → j ≤ 1020 → suc (53 + j) ≤ 1074
    room j k = omega arith

abbrev Near : Bool → ℕ → ℕ → Float → Type 0
Near s x t v = (x ≤ 1053) × (nearest_whole v ≡ signed s (whole_by x t))

-- a field of suc j that is not all ones
normal : (s : Bool) (j t : ℕ) → t < 2 ^ 52 → AtMost 2147483647 (odd 53 s (2 ^ 52 + t) j 1074) → Near s (suc j) t (odd 53 s (2 ^ 52 + t) j 1074)
normal s j t h b = (field_lt, near_of_value v s (q * 2 ^ j) (2 ^ 1074) (pow_pos 1074) has ∙ ap (signed s) (go (ltb (suc j) 1022) (ltb→lt (suc j) 1022) (nltb→le (suc j) 1022)))
  where
    q : ℕ
    q = 2 ^ 52 + t

    v : Float
    v = odd 53 s q j 1074

    has : HasValue v s (q * 2 ^ j) (2 ^ 1074)
    has = odd_sign 53 s q j 1074

    most : q * 2 ^ j ≤ 2147483647 * 2 ^ 1074
    most = value_at_most v s (q * 2 ^ j) (2 ^ 1074) 2147483647 (pow_pos 1074) has b

    below : 2 ^ (52 + j) < 2 ^ (31 + 1074)
    below =
        lt_of_le_of_lt (le_trans (le_of_eq (pow-add 2 52 j)) (mul-le-mul_right (2 ^ j) (le-add_right (2 ^ 52) t)))
        (lt_of_le_of_lt most (lt_of_lt_of_le (mul-lt-mul_of_pos_right {m = 2147483647} {n = 2 ^ 31} (lit< tt) (pow_pos 1074)) (le_of_eq (sym (pow-add 2 31 1074)))))

    field_lt : suc j ≤ 1053
    field_lt = up_to j (pow_lt_back (52 + j) (31 + 1074) below)
      where
        up_to : (j : ℕ) → 52 + j < 31 + 1074 → suc j ≤ 1053
        up_to j h = omega arith

    small : (j : ℕ) → suc j < 1022 → j ≤ 1020
    small j h = omega arith

    apart : (j : ℕ) → suc j ≤ 1053 → j + suc (1074 - suc j) ≡ 1074
    apart j h = omega arith

    one_more : (j : ℕ) → suc j ≤ 1053 → suc (1074 - suc j) ≡ 1075 - suc j
    one_more j h = omega arith

    go : (c : Bool) → (T c → suc j < 1022) → (T (not c) → 1022 ≤ suc j) → the_half_up (q * 2 ^ j) (2 ^ 1074) ≡ cond c 0 ((q + 2 ^ (1074 - suc j)) / 2 ^ (1075 - suc j))
    go true y n = half_up_none (q * 2 ^ j) (2 ^ 1074) (doubled-lt q j (with_lead t h) (small j (y tt)))
    go false y n = shifted q j (1074 - suc j) (apart j field_lt) ∙ ap (λ (k : ℕ). (q + 2 ^ (1074 - suc j)) / 2 ^ k) (one_more j field_lt)

by_fields : (s : Bool) (x t : ℕ) → t < 2 ^ 52 → AtMost 2147483647 (of_fields binary64 s x t) → Near s x t (of_fields binary64 s x t)
unfolding of_fields
by_fields s zero t h b =
    let v = odd 53 s t 0 1074 in
    (zero-le, near_of_value v s (t * 2 ^ 0) (2 ^ 1074) (pow_pos 1074) (odd_sign 53 s t 0 1074) ∙ ap (signed s) (half_up_none (t * 2 ^ 0) (2 ^ 1074) (doubled-lt t 0 (lt_of_lt_of_le h (lit≤ tt)) zero-le)))
by_fields s (suc j) t h b = go (eqb (suc j) 2047) (eqb t 0) b
  where
    go : (c z : Bool) → AtMost 2147483647 (cond c (cond z (inf s) nan) (odd 53 s (2 ^ 52 + t) j 1074)) → Near s (suc j) t (cond c (cond z (inf s) nan) (odd 53 s (2 ^ 52 + t) j 1074))
    go true true b = absurd b
    go true false b = absurd b
    go false z b = normal s j t h b

-- ── by the pattern ──

of_bits_is : (b : ℕ) → of_bits binary64 b ≡ of_fields binary64 (negative b) (field b) (digits b)
unfolding of_bits
of_bits_is b = refl

pub by_pattern : (x : Float) → T (fits binary64 x) → AtMost 2147483647 x → (field (to_bits binary64 x) ≤ 1053) × (nearest_whole x ≡ signed (negative (to_bits binary64 x)) (whole_of (to_bits binary64 x)))
by_pattern x F h =
    let b = to_bits binary64 x in
    let e : of_fields binary64 (negative b) (field b) (digits b) ≡ x = sym (of_bits_is b) ∙ of_bits-to_bits binary64 x F in
    subst (λ (v : Float). Near (negative b) (field b) (digits b) v) e (by_fields (negative b) (field b) (digits b) (mod-lt b (pow_pos 52)) (subst (AtMost 2147483647) (sym e) h))

-- ── for the code ──

pub whole-small : (b : ℕ) → field b < 1022 → 0 ≡ whole_of b
whole-small b h = go (ltb (field b) 1022) (lt→ltb (field b) 1022 h)
  where
    go : (c : Bool) → T c → 0 ≡ cond c 0 ((2 ^ 52 + digits b + 2 ^ (1074 - field b)) / 2 ^ (1075 - field b))
    go true t = refl
    go false t = absurd t

pub whole-large : (b : ℕ) → 1022 ≤ field b → (2 ^ 52 + digits b + 2 ^ (1074 - field b)) / 2 ^ (1075 - field b) ≡ whole_of b
whole-large b h = go (ltb (field b) 1022) (ltb→lt (field b) 1022)
  where
    go : (c : Bool) → (T c → field b < 1022) → (2 ^ 52 + digits b + 2 ^ (1074 - field b)) / 2 ^ (1075 - field b) ≡ cond c 0 ((2 ^ 52 + digits b + 2 ^ (1074 - field b)) / 2 ^ (1075 - field b))
    go true t = absurd (not-le_of_lt (t tt) h)
    go false t = refl

-- a one, shifted
pub one_shl : (k : ℕ) → k < 64 → 1 * 2 ^ k % 2 ^ 64 ≡ 2 ^ k
one_shl k h = rw one-mul (mod-eq_of_lt (pow-lt h))

pub half-unit : (x : ℕ) → 1022 ≤ x → 2 ^ (1074 - x) ≤ 2 ^ 52
half-unit x h = pow_mono (at_most x h)
  where
    at_most : (x : ℕ) → 1022 ≤ x → 1074 - x ≤ 52
    at_most x h = omega arith

pub no_nan : (B : ℕ) (x : Float) → AtMost B x → T (not (is_nan x))
unfolding is_nan
no_nan B nan h = absurd h
no_nan B (inf s) h = tt
no_nan B (fin s m e) h = tt

pub whole_at_most : (x : Float) → T (fits binary64 x) → AtMost 2147483647 x → whole_of (to_bits binary64 x) ≤ 2147483647
whole_at_most x F h =
    let b = to_bits binary64 x in
    le_trans (le_of_eq (sym (ap nat_abs (by_pattern x F h).1 ∙ abs-signed (negative b) (whole_of b)))) (nearest_at_most x 2147483647 h)

-- with the sign of the pattern
pub below_zero : (x : Float) → T (fits binary64 x) → AtMost 2147483647 x → 2 ^ 63 ≤ to_bits binary64 x → neg_ℤ (pos (whole_of (to_bits binary64 x))) ≡ nearest_whole x
below_zero x F h n = let b = to_bits binary64 x in sym ((by_pattern x F h).1 ∙ ap (λ (s : Bool). signed s (whole_of b)) (is_true (negative b) (le→leb (2 ^ 63) b n)))

pub above_zero : (x : Float) → T (fits binary64 x) → AtMost 2147483647 x → to_bits binary64 x < 2 ^ 63 → pos (whole_of (to_bits binary64 x)) ≡ nearest_whole x
above_zero x F h n = let b = to_bits binary64 x in sym ((by_pattern x F h).1 ∙ ap (λ (s : Bool). signed s (whole_of b)) (is_false (negative b) (lt→nleb (2 ^ 63) b n)))
