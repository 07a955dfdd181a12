-- Of Nearest of specs/, what rests on its definitions.
use Rattle.std.proofs.Common.{inl, inr, sym, ap, ◌∙◌, subst, le_of_suc-le-suc, le_refl, lt-suc_self, zero-mul, eq-or-lt_of_le, le_antisymm, mul_left_comm, div-lt_iff_lt-mul, le-div_iff_mul-le, suc-mul, le_trans, le_of_eq, arith}
use Rattle.std.specs.Prelude.{◌≡◌, refl, zero, suc, ◌≤◌, ◌<◌, nat_abs, neg_ℤ, ◌+◌, ◌*◌, ◌-◌, ◌/◌, ◌-ℤ◌, ◌*ℤ◌}
use Rattle.std.specs.Float.{fin}
use Rattle.std.specs.Float.Ieee.{up, down}
use Rattle.std.specs.Float.Ieee.Fits.{down_pos}
use Rattle.exact.specs.Order.{pp, np, is-+, is_neg_lem, is-*}
use Rattle.seq.specs.Seq.{Bool, true, false, cond, ℕ, ℤ, pos, negsuc}
use Rattle.paper.specs.Tide.{signed, the_half_up, nearest_whole}
use Rattle.laws_tide.specs.Nearest.{twice, IsNearest, abs-signed, numerator, denominator}

-- ── the same of natural numbers: a / d and n, where p is n · d ──

abbrev dist : ℕ → ℕ → ℕ
dist p a = (p - a) + (a - p)

half_up_near : (a d n p : ℕ) → n * (2 * d) ≡ 2 * p → n * (2 * d) ≤ 2 * a + d → 2 * a + d < 2 * p + 2 * d → 0 < d → (2 * dist p a ≤ d) × (2 * dist p a ≡ d → a < p)
half_up_near a d n p e l u D = (omega arith, λ (t : 2 * dist p a ≡ d). omega arith)

near-half_up : (a d p : ℕ) → 2 * dist p a ≤ d → (2 * dist p a ≡ d → a < p) → (2 * p ≤ 2 * a + d) × (2 * a + d < 2 * p + 2 * d)
near-half_up a d p h t = (omega arith, elim (eq-or-lt_of_le h) [ inl e ↦ over (t e) | inr l ↦ under l ])
  where
    over : a < p → 2 * a + d < 2 * p + 2 * d
    over l = omega arith

    under : 2 * dist p a < d → 2 * a + d < 2 * p + 2 * d
    under l = omega arith

-- the whole number between two fractions that are 1 apart
only : (n c d : ℕ) → 0 < d → n * d ≤ c → c < n * d + d → c / d ≡ n
only n c d D l u = le_antisymm (le_of_suc-le-suc ((div-lt_iff_lt-mul D).1 (subst (λ (k : ℕ). c < k) (sym (suc-mul n d)) u))) ((le-div_iff_mul-le D).1 l)

half_up_is_near : (a d : ℕ) → 0 < d → (2 * dist (the_half_up a d * d) a ≤ d) × (2 * dist (the_half_up a d * d) a ≡ d → a < the_half_up a d * d)
half_up_is_near a d D =
    let n = the_half_up a d in
    let e : n * (2 * d) ≡ 2 * (n * d) = mul_left_comm n 2 d in
    let u : 2 * a + d < suc n * (2 * d) = (div-lt_iff_lt-mul (twice d D)).0 (lt-suc_self n) in
    half_up_near a d n (n * d) e ((le-div_iff_mul-le (twice d D)).0 (le_refl n)) (subst (λ (k : ℕ). 2 * a + d < k) (suc-mul n (2 * d) ∙ ap (λ (k : ℕ). k + 2 * d) e) u) D

near_is-half_up : (a d n : ℕ) → 0 < d → 2 * dist (n * d) a ≤ d → (2 * dist (n * d) a ≡ d → a < n * d) → the_half_up a d ≡ n
near_is-half_up a d n D h t =
    let e : n * (2 * d) ≡ 2 * (n * d) = mul_left_comm n 2 d in
    let b = near-half_up a d (n * d) h t in
    only n (2 * a + d) (2 * d) (twice d D) (le_trans (le_of_eq e) b.0) (subst (λ (k : ℕ). 2 * a + d < k + 2 * d) (sym e) b.1)

-- ── distances of whole numbers as those of natural numbers ──

by_parts : (z : ℤ) (p a : ℕ) → pp z + a ≡ np z + p → nat_abs z ≡ dist p a
by_parts (pos n) p a e = omega arith
by_parts (negsuc n) p a e = omega arith

off_is : (r v : ℤ) (d : ℕ) → nat_abs (r *ℤ pos d -ℤ v) ≡ dist (pp r * d + np v) (np r * d + pp v)
off_is r v d = by_parts (r *ℤ pos d -ℤ v) (pp r * d + np v) (np r * d + pp v) (omega (arith, is-+ (r *ℤ pos d) (neg_ℤ v), is_neg_lem v, is-* r (pos d)))

parts-signed : (s : Bool) (n : ℕ) → (pp (signed s n) ≡ cond s 0 n) × (np (signed s n) ≡ cond s n 0)
parts-signed true zero = (refl, refl)
parts-signed true (suc n) = (refl, refl)
parts-signed false n = (refl, refl)

dist_off : (s : Bool) (n d a : ℕ) → dist (cond s 0 n * d + cond s a 0) (cond s n 0 * d + cond s 0 a) ≡ dist (n * d) a
dist_off true n d a = swap (0 * d) (n * d) a (zero-mul d)
  where
    swap : (z p a : ℕ) → z ≡ 0 → dist (z + a) (p + 0) ≡ dist p a
    swap z p a e = omega arith
dist_off false n d a = keep (0 * d) (n * d) a (zero-mul d)
  where
    keep : (z p a : ℕ) → z ≡ 0 → dist (p + 0) (z + a) ≡ dist p a
    keep z p a e = omega arith

-- with the same sign
off_same : (s : Bool) (n d a : ℕ) → nat_abs (signed s n *ℤ pos d -ℤ signed s a) ≡ dist (n * d) a
off_same s n d a =
    let p = parts-signed s n in
    let q = parts-signed s a in
    off_is (signed s n) (signed s a) d
    ∙ (λ i. dist (p.0 i * d + q.1 i) (p.1 i * d + q.0 i))
    ∙ dist_off s n d a

-- ── `nearest_whole` ──

signed-near : (s : Bool) (a d n : ℕ) → (2 * dist (n * d) a ≤ d) × (2 * dist (n * d) a ≡ d → a < n * d) → IsNearest (signed s a) d (signed s n)
signed-near s a d n h =
    let o = off_same s n d a in
    (subst (λ (k : ℕ). 2 * k ≤ d) (sym o) h.0, λ t. subst (λ (k : ℕ). k < nat_abs (signed s n) * d) (sym (abs-signed s a)) (subst (λ (k : ℕ). a < k * d) (sym (abs-signed s n)) (h.1 (ap (λ (k : ℕ). 2 * k) (sym o) ∙ t))))

pub nearest_is : (s : Bool) (m : ℕ) (e : ℤ) → IsNearest (numerator (fin s m e)) (denominator (fin s m e)) (nearest_whole (fin s m e))
unfolding nearest_whole
nearest_is s m e = signed-near s (m * up e) (down e) (the_half_up (m * up e) (down e)) (half_up_is_near (m * up e) (down e) (down_pos e))

-- and nothing else is
near-signed : (s : Bool) (a d n : ℕ) → 0 < d → IsNearest (signed s a) d (signed s n) → the_half_up a d ≡ n
near-signed s a d n D h =
    let o = off_same s n d a in
    near_is-half_up a d n D (subst (λ (k : ℕ). 2 * k ≤ d) o h.0)
    (λ t. subst (λ (k : ℕ). k < n * d) (abs-signed s a) (subst (λ (k : ℕ). nat_abs (signed s a) < k * d) (abs-signed s n) (h.1 (ap (λ (k : ℕ). 2 * k) o ∙ t))))

-- on the other side of zero the distance is more than 1 already
beyond : (n d a q : ℕ) → 0 < d → q ≡ n * d + d → 2 * dist (0 * d + 0) (q + a) ≤ d → ⊥
beyond n d a q D e h = omega (arith, zero-mul d)

beyond' : (n d a q : ℕ) → 0 < d → q ≡ n * d + d → 2 * dist (q + a) (0 * d + 0) ≤ d → ⊥
beyond' n d a q D e h = omega (arith, zero-mul d)

signed-only : (s : Bool) (a d : ℕ) (r : ℤ) → 0 < d → IsNearest (signed s a) d r → r ≡ signed s (the_half_up a d)
signed-only false a d (pos n) D h = ap pos (sym (near-signed false a d n D h))
signed-only false a d (negsuc n) D h = absurd (beyond n d a (suc n * d) D (suc-mul n d) (subst (λ (k : ℕ). 2 * k ≤ d) (off_is (negsuc n) (pos a) d) h.0))
signed-only true a d (pos zero) D h = sym (ap (signed true) (near-signed true a d zero D h))
signed-only true a d (pos (suc n)) D h =
    let q = parts-signed true a in
    absurd (beyond' n d a (suc n * d) D (suc-mul n d) (subst (λ (k : ℕ). 2 * k ≤ d) (off_is (pos (suc n)) (signed true a) d ∙ (λ i. dist (suc n * d + q.1 i) (0 * d + q.0 i))) h.0))
signed-only true a d (negsuc n) D h = sym (ap (signed true) (near-signed true a d (suc n) D h))

pub nearest-only : (s : Bool) (m : ℕ) (e : ℤ) (r : ℤ) → IsNearest (numerator (fin s m e)) (denominator (fin s m e)) r → r ≡ nearest_whole (fin s m e)
unfolding nearest_whole
nearest-only s m e r h = signed-only s (m * up e) (down e) r (down_pos e) h
