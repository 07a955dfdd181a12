-- How large a height is: a ratio is at most 4, a weight at most 1, a reading at most 20,000, each in magnitude; so a height is at most 80,000, before rounding (`height-small`) and as whole
-- millimetres (`nearest_at_most`), and none that is answered is larger or not finite (`tide-small`). Assumes nothing.
use Rattle.std.specs.Prelude.{◌≡◌, suc, ◌^◌, ◌≤◌, ◌<◌, T, eqb, Float, ◌∷◌, ◌&&◌, ◌+◌, ◌*◌}
use Rattle.std.proofs.Common.{sym, ap, ◌∙◌, zero-le, le_of_suc-le-suc, le_trans, le_of_eq, mul_left_comm, le_of_mul-le-mul_right, mul-one, one-mul, div-lt_iff_lt-mul, suc-mul, arith, leb→le, eqb→eq, lit≤}
use Rattle.std.specs.Float.{nan, inf, fin, binary64}
use Rattle.std.specs.Float.Ieee.{up, down, le, mul}
use Rattle.std.specs.Float.Ieee.Fits.{and_l, and_r, down_pos}
use Rattle.seq.specs.Seq.{[], true, false, ℕ, ℤ, pos, negsuc, nat_abs}
use Rattle.paper.specs.Limits.{gauge_reach}
use Rattle.paper.specs.Tide.{TideRule, unset, ratio, weights, Reading, missing, at, within, weight_in, in_range, readable, readings_good, gauge, height_of, the_half_up, nearest_whole}
use Rattle.laws_tide.specs.AtMost.{AtMost, le_or_eq, mul_at_most, add_at_most, int_at_most, wider}
use Rattle.laws_tide.specs.Nearest.{twice, abs-signed}

-- ── ratios, weights and readings ──

-- x from lo to 2 ^ j, where lo is not negative, is at most 2 ^ j in magnitude: with a minus sign it is a zero
no_size : (n k c d : ℕ) → 0 < k → T (eqb c (n * k) && eqb c 0) → n ≤ d
no_size n k c d K t =
    let e : c ≡ n * k = eqb→eq c (n * k) (and_l (eqb c (n * k)) (eqb c 0) t) in
    let z : c ≡ 0 = eqb→eq c 0 (and_r (eqb c (n * k)) (eqb c 0) t) in
    le_of_mul-le-mul_right (le_trans (le_of_eq (sym e ∙ z)) zero-le) K

within_at_most : (x : Float) (l : ℕ) (k : ℤ) (j : ℕ) → T (within (fin false l k) (fin false 1 (pos j)) x) → AtMost (2 ^ j) x
unfolding le
within_at_most x l k j t = go x (and_l (le (fin false l k) x) (le x (fin false 1 (pos j))) t) (and_r (le (fin false l k) x) (le x (fin false 1 (pos j))) t)
  where
    go : (x : Float) → T (le (fin false l k) x) → T (le x (fin false 1 (pos j))) → AtMost (2 ^ j) x
    go nan p q = absurd q
    go (inf true) p q = absurd p
    go (inf false) p q = absurd q
    go (fin true m e) p q = no_size (m * up e) (down k) (l * up k * down e) (2 ^ j * down e) (down_pos k) p
    go (fin false m e) p q =
        le_trans (le_of_eq (sym (mul-one (m * up e))))
        (le_trans (le_or_eq (m * up e * 1) (1 * 2 ^ j * down e) true q) (le_of_eq (ap (λ (z : ℕ). z * down e) (one-mul (2 ^ j)))))

gauge_at_most : (x : Reading) → T (readable x) → AtMost gauge_reach (gauge x)
gauge_at_most missing h = absurd h
gauge_at_most (at z) h = int_at_most z gauge_reach (leb→le (nat_abs z) gauge_reach h) (lit≤ tt)

-- ── the height ──

-- a ratio of at most 4, or two weights of at most 1, of readings of at most 20,000
pub height_at_most : (t : TideRule) (x y : Reading) → T (in_range t) → T (readings_good t x y) → AtMost 80000 (height_of t x y)
height_at_most unset x y r g = zero-le
height_at_most (ratio k) x y r g = mul_at_most k (gauge x) 4 gauge_reach (within_at_most k 1 (negsuc 1) 2 r) (gauge_at_most x g) (lit≤ tt)
height_at_most (weights a b) x y r g =
    let p = mul_at_most a (gauge x) 1 gauge_reach (within_at_most a 0 (pos 0) 0 (and_l (weight_in a) (weight_in b) r)) (gauge_at_most x (and_l (readable x) (readable y) g)) (lit≤ tt) in
    let q = mul_at_most b (gauge y) 1 gauge_reach (within_at_most b 0 (pos 0) 0 (and_r (weight_in a) (weight_in b) r)) (gauge_at_most y (and_r (readable x) (readable y) g)) (lit≤ tt) in
    wider (height_of (weights a b) x y) 40000 80000 (lit≤ tt) (add_at_most (mul binary64 a (gauge x)) (mul binary64 b (gauge y)) gauge_reach gauge_reach p q (lit≤ tt))

-- a fraction of at most B is rounded to a whole number of at most B
half_up_at_most : (n d B : ℕ) → 0 < d → n ≤ B * d → the_half_up n d ≤ B
half_up_at_most n d B D h = le_of_suc-le-suc ((div-lt_iff_lt-mul (twice d D)).1 (room n d B D (B * d) h (split B d)))
  where
    split : (B d : ℕ) → suc B * (2 * d) ≡ 2 * (B * d) + 2 * d
    split B d = suc-mul B (2 * d) ∙ ap (λ (z : ℕ). z + 2 * d) (mul_left_comm B 2 d)

    room : (n d B : ℕ) → 0 < d → (p : ℕ) → n ≤ p → suc B * (2 * d) ≡ 2 * p + 2 * d → 2 * n + d < suc B * (2 * d)
    room n d B D p h e = omega arith

pub nearest_at_most : (x : Float) (B : ℕ) → AtMost B x → nat_abs (nearest_whole x) ≤ B
unfolding nearest_whole
nearest_at_most nan B p = absurd p
nearest_at_most (inf s) B p = absurd p
nearest_at_most (fin s m e) B p = le_trans (le_of_eq (abs-signed s (the_half_up (m * up e) (down e)))) (half_up_at_most (m * up e) (down e) B (down_pos e) p)
