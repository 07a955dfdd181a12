-- How large a float of 64 bits is, for any float: `AtMost B x` says that x is finite and its magnitude is at most B. In order: a wider bound; the order of two floats as that of their
-- fractions; a fraction of at most B, a whole number, is rounded to a float of at most B (`round_at_most`); so a product is at most the product of the bounds and a sum at most their
-- sum (`mul_at_most`, `add_at_most`); a whole number is a float of its size (`int_at_most`). Assumes nothing.
use Rattle.std.specs.Prelude.{◌≡◌, refl, suc, ◌^◌, ◌≤◌, ◌<◌, T, eqb, Float, ◌&&◌, ◌||◌, ◌+◌, ◌*◌, ◌-◌}
use Rattle.std.proofs.Common.{sym, ap, ◌∙◌, subst, inl, inr, le_trans, le_of_eq, le_of_lt, mul_comm, mul_assoc, mul_right_comm, mul-le-mul, mul-le-mul_right, le_of_mul-le-mul_right, mul-one, mul-pos, add-mul, zero-lt-suc, arith, ltb→lt, eqb→eq, pow_pos}
use Rattle.std.specs.Bool.{beq}
use Rattle.std.proofs.Math.Nat.{mul-mul-mul_comm}
use Rattle.std.specs.Float.{nan, inf, fin, binary64}
use Rattle.std.specs.Float.Ieee.{low, up, down, le, round, sum, mul, add, of_int, unlike}
use Rattle.std.specs.Float.Ieee.Fits.{and_l, down_pos, round_is}
use Rattle.std.specs.Float.Ieee.Exact.{HasValue, units_val}
use Rattle.std.specs.Float.Ieee.Order.{drop, kept, round_mono, transfer}
use Rattle.std.specs.Float.Ieee.Scale.{grid, overflow, finite, round_val, round_under}
use Rattle.std.specs.Float.Ieee.Back.{round_whole}
use Rattle.seq.specs.Seq.{Bool, true, false, cond, ℕ, ltb, ℤ, pos, negsuc, nat_abs}
use Rattle.exact.specs.Tests.{never, true_of, true_T, or_cases}

abbrev pub AtMost : ℕ → Float → Type 0
AtMost B nan = ⊥
AtMost B (inf s) = ⊥
AtMost B (fin s m e) = m * up e ≤ B * down e

pub wider : (x : Float) (A B : ℕ) → A ≤ B → AtMost A x → AtMost B x
wider nan A B h p = p
wider (inf s) A B h p = p
wider (fin s m e) A B h p = le_trans p (mul-le-mul_right (down e) h)

-- ── the order of two floats that are not negative, as that of their fractions ──

pub le_or_eq : (a b : ℕ) (c : Bool) → T (ltb a b || (eqb a b && c)) → a ≤ b
le_or_eq a b c t = elim (or_cases (ltb a b) (eqb a b && c) (true_of t)) [ inl u ↦ le_of_lt (ltb→lt a b (true_T u)) | inr u ↦ le_of_eq (eqb→eq a b (and_l (eqb a b) c (true_T u))) ]

fraction-le : (x y : Float) (a c B : ℕ) → HasValue x false a c → HasValue y false B 1 → T (le x y) → a ≤ B * c
unfolding le
fraction-le nan y a c B p q h = absurd p
fraction-le (inf s) y a c B p q h = absurd p
fraction-le (fin s m e) nan a c B p q h = absurd q
fraction-le (fin s m e) (inf t) a c B p q h = absurd q
fraction-le (fin true m e) (fin t n d) a c B p q h = never (sym p.0)
fraction-le (fin false m e) (fin true n d) a c B p q h = never (sym q.0)
fraction-le (fin false m e) (fin false n d) a c B p q h =
    le_trans (le_of_eq (sym (mul-one a)))
    (transfer a B c 1 (m * up e) (n * up d) (down e) (down d) (down_pos e) (down_pos d) (sym p.1) (sym q.1) (le_or_eq (m * up e * down d) (n * up d * down e) true h))

-- ── rounding ──

-- a float with a minus sign that is at least 0 is a zero: no infinity
finite_between : (x y : Float) (B : ℕ) → HasValue y false B 1 → T (le (fin false 0 (pos 0)) x) → T (le x y) → T (finite x)
unfolding le
finite_between nan y B v l h = absurd h
finite_between (inf true) y B v l h = absurd l
finite_between (inf false) nan B v l h = absurd v
finite_between (inf false) (inf t) B v l h = absurd v
finite_between (inf false) (fin t m e) B v l h = absurd h
finite_between (fin s m e) y B v l h = tt

zero_is : round binary64 false 0 1 ≡ fin false 0 (pos 0)
unfolding round
zero_is = refl

bounded : (x : Float) (s : Bool) (g l B : ℕ) → 0 < l → HasValue x s g l → g ≤ B * l → AtMost B x
bounded nan s g l B L v h = v
bounded (inf t) s g l B L v h = v
bounded (fin t m e) s g l B L v h =
    le_of_mul-le-mul_right (le_trans (le_of_eq v.1) (le_trans (mul-le-mul_right (down e) h) (le_of_eq (mul_right_comm B l (down e))))) L

-- a / c is at most B, a whole number that the format holds: so is what it is rounded to, with either sign
pub round_at_most : (s : Bool) (a c B : ℕ) → 0 < c → B ≤ 2 ^ 53 → a ≤ B * c → AtMost B (round binary64 s a c)
round_at_most s a c B C W h =
    let top : HasValue (round binary64 false B 1) false B 1 = round_whole binary64 false B W in
    let below : T (le (round binary64 false a c) (round binary64 false B 1)) = round_mono binary64 a c B 1 C (zero-lt-suc 0) (le_trans (le_of_eq (mul-one a)) h) in
    let above : T (le (fin false 0 (pos 0)) (round binary64 false a c)) =
    subst (λ (x : Float). T (le x (round binary64 false a c))) zero_is (round_mono binary64 0 1 a c (zero-lt-suc 0) C (none a c)) in
    let under : grid binary64 a c < overflow binary64 = round_under binary64 a c (finite_between (round binary64 false a c) (round binary64 false B 1) B top above below) in
    let most : grid binary64 a c ≤ B * 2 ^ low binary64 =
    fraction-le (round binary64 false a c) (round binary64 false B 1) (grid binary64 a c) (2 ^ low binary64) B (round_val binary64 a c under) top below in
    let n = a * 2 ^ low binary64 in
    let has : HasValue (round binary64 s a c) s (grid binary64 a c) (2 ^ low binary64) =
    subst (λ (x : Float). HasValue x s (grid binary64 a c) (2 ^ low binary64)) (sym (round_is binary64 s a c)) (units_val binary64 s (kept 53 n c) (drop 53 n c) under) in
    bounded (round binary64 s a c) s (grid binary64 a c) (2 ^ low binary64) B (pow_pos (low binary64)) has most
  where
    none : (a c : ℕ) → 0 * c ≤ a * 1
    none a c = omega arith

-- ── products and sums ──

pub mul_at_most : (x y : Float) (A B : ℕ) → AtMost A x → AtMost B y → A * B ≤ 2 ^ 53 → AtMost (A * B) (mul binary64 x y)
unfolding mul
mul_at_most nan y A B p q W = p
mul_at_most (inf s) y A B p q W = absurd p
mul_at_most (fin s m e) nan A B p q W = q
mul_at_most (fin s m e) (inf t) A B p q W = absurd q
mul_at_most (fin s m e) (fin t n d) A B p q W =
    round_at_most (unlike s t) (m * up e * (n * up d)) (down e * down d) (A * B) (mul-pos (down_pos e) (down_pos d)) W
    (le_trans (mul-le-mul p q) (le_of_eq (mul-mul-mul_comm A (down e) B (down d))))

more : (a b C : ℕ) → a + b ≤ C → (b - a ≤ C) × (a - b ≤ C)
more a b C h = (omega arith, omega arith)

sum_at_most : (s : Bool) (a : ℕ) (t : Bool) (b c B : ℕ) → 0 < c → B ≤ 2 ^ 53 → a + b ≤ B * c → AtMost B (sum binary64 s a t b c)
unfolding sum
sum_at_most s a t b c B C W h = go (beq s t) (ltb a b)
  where
    go : (p q : Bool) → AtMost B (cond p (round binary64 s (a + b) c) (cond q (round binary64 t (b - a) c) (round binary64 (s && ltb b a) (a - b) c)))
    go true q = round_at_most s (a + b) c B C W h
    go false true = round_at_most t (b - a) c B C W (more a b (B * c) h).0
    go false false = round_at_most (s && ltb b a) (a - b) c B C W (more a b (B * c) h).1

-- a / d and b / e, over the common denominator
common : (a d b e A B : ℕ) → a ≤ A * d → b ≤ B * e → a * e + b * d ≤ (A + B) * (d * e)
common a d b e A B h k =
    let x : a * e ≤ A * (d * e) = le_trans (mul-le-mul_right e h) (le_of_eq (mul_assoc A d e)) in
    let y : b * d ≤ B * (d * e) = le_trans (mul-le-mul_right d k) (le_of_eq (mul_assoc B e d ∙ ap (λ (z : ℕ). B * z) (mul_comm e d))) in
    let z : (A + B) * (d * e) ≡ A * (d * e) + B * (d * e) = add-mul A B (d * e) in
    omega arith

pub add_at_most : (x y : Float) (A B : ℕ) → AtMost A x → AtMost B y → A + B ≤ 2 ^ 53 → AtMost (A + B) (add binary64 x y)
unfolding add
add_at_most nan y A B p q W = p
add_at_most (inf s) y A B p q W = absurd p
add_at_most (fin s m e) nan A B p q W = q
add_at_most (fin s m e) (inf t) A B p q W = absurd q
add_at_most (fin s m e) (fin t n d) A B p q W =
    sum_at_most s (m * up e * down d) t (n * up d * down e) (down e * down d) (A + B) (mul-pos (down_pos e) (down_pos d)) W (common (m * up e) (down e) (n * up d) (down d) A B p q)

-- ── whole numbers ──

whole_at_most : (x : Float) (s : Bool) (n B : ℕ) → n ≤ B → HasValue x s n 1 → AtMost B x
whole_at_most x s n B h v = bounded x s n 1 B (zero-lt-suc 0) v (le_trans h (le_of_eq (sym (mul-one B))))

-- a whole number is a float without rounding
pub int_at_most : (z : ℤ) (B : ℕ) → nat_abs z ≤ B → B ≤ 2 ^ 53 → AtMost B (of_int binary64 z)
unfolding of_int
int_at_most (pos n) B h W = whole_at_most (round binary64 false n 1) false n B h (round_whole binary64 false n (le_trans h W))
int_at_most (negsuc n) B h W = whole_at_most (round binary64 true (suc n) 1) true (suc n) B h (round_whole binary64 true (suc n) (le_trans h W))
