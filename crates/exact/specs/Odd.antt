-- The greatest common divisor by halving: of an odd number and another, the other loses its factors of 2 (`gcd_odd-part`), and the less is taken from the greater (`gcd_minus`). What is left of a number
-- without its factors of 2 is odd (`odd-part-odd`), and of two even numbers the halves are enough (`gcd_halves`). Of three numbers any order will do (`gcd3-turned`). Assumes nothing.
use Rattle.std.specs.Prelude.{◌≡◌, refl, ℕ, zero, suc, ◌+◌, ◌-◌, ◌*◌, ◌/◌, ◌%◌, ◌^◌, ◌≤◌, ◌<◌}
use Rattle.std.proofs.Common.{sym, ◌∙◌, ap, subst, mod-lt, div-one, mul-add, mul-one, mul_left_comm, div-add-mod', arith}
use Rattle.std.specs.Int.{◌∣◌}
use Rattle.std.proofs.Math.Nat.{mod-one, le_of_dvd, pow-zero, pow-succ', div-div-eq-div-mul, dvd_antisymm, dvd_trans, dvd-add, dvd-sub, dvd-add_iff_right, dvd-mul_left_of_dvd, dvd-mul_right_of_dvd}
use Rattle.std.specs.Int.Count.{count_trailing_zeros, under}
use lib.Pow.{shr_lt}
use Rattle.exact.specs.Gcd.{gcd_of, gcd3, gcd_l, gcd_r, gcd_greatest, gcd_zero, gcd_step, gcd_mul}

pub gcd_sym : (a b : ℕ) → gcd_of a b ≡ gcd_of b a
gcd_sym a b = dvd_antisymm (gcd_greatest (gcd_of a b) b a (gcd_r a b) (gcd_l a b)) (gcd_greatest (gcd_of b a) a b (gcd_r b a) (gcd_l b a))

-- of three, the second last
pub gcd3-turned : (x y d : ℕ) → gcd_of y (gcd_of x d) ≡ gcd3 x y d
gcd3-turned x y d =
    let g = gcd_of y (gcd_of x d) in
    let h = gcd3 x y d in
    let gx = dvd_trans g (gcd_r y (gcd_of x d)) (gcd_l x d) in
    let gd = dvd_trans g (gcd_r y (gcd_of x d)) (gcd_r x d) in
    let hx = dvd_trans h (gcd_l (gcd_of x y) d) (gcd_l x y) in
    let hy = dvd_trans h (gcd_l (gcd_of x y) d) (gcd_r x y) in
    dvd_antisymm (gcd_greatest g (gcd_of x y) d (gcd_greatest g x y gx (gcd_l y (gcd_of x d))) gd) (gcd_greatest h y (gcd_of x d) hy (gcd_greatest h x d hx (gcd_r (gcd_of x y) d)))

-- the less taken from the greater
pub gcd_minus : (a c : ℕ) → c ≤ a → gcd_of a c ≡ gcd_of c (a - c)
gcd_minus a c h =
    let g = gcd_of a c in
    let f = gcd_of c (a - c) in
    let e : c + (a - c) ≡ a = omega arith in
    dvd_antisymm (gcd_greatest g c (a - c) (gcd_r a c) (dvd-sub g (gcd_l a c) (gcd_r a c)))
    (gcd_greatest f a c (subst (λ (n : ℕ). f ∣ n) e (dvd-add f (gcd_l c (a - c)) (gcd_r c (a - c)))) (gcd_l c (a - c)))

-- of an odd number a = 2q + 1 and 2m: what divides both divides m·a = q·2m + m
pub gcd_twice : (a m : ℕ) → a % 2 ≡ 1 → gcd_of a (m * 2) ≡ gcd_of a m
gcd_twice a m o =
    let g = gcd_of a (m * 2) in
    dvd_antisymm (gcd_greatest g a m (gcd_l a (m * 2)) half) (gcd_greatest (gcd_of a m) a (m * 2) (gcd_l a m) (dvd-mul_right_of_dvd (gcd_of a m) (gcd_r a m) 2))
  where
    parts : m * a ≡ a / 2 * (m * 2) + m
    parts =
        ap (λ (n : ℕ). m * n) (sym (div-add-mod' a 2) ∙ ap (λ (n : ℕ). a / 2 * 2 + n) o) ∙ mul-add m (a / 2 * 2) 1
        ∙ (λ i. mul_left_comm m (a / 2) 2 i + mul-one m i)

    half : gcd_of a (m * 2) ∣ m
    half =
        let g = gcd_of a (m * 2) in
        (dvd-add_iff_right g {m = a / 2 * (m * 2)} {n = m} (dvd-mul_left_of_dvd g (gcd_r a (m * 2)) (a / 2))).1 (subst (λ (n : ℕ). g ∣ n) parts (dvd-mul_left_of_dvd g (gcd_l a (m * 2)) m))

-- of two even numbers
even_is : (n : ℕ) → n % 2 ≡ 0 → n / 2 * 2 ≡ n
even_is n e = omega (arith, div-add-mod' n 2)

pub gcd_halves : (a b : ℕ) → a % 2 ≡ 0 → b % 2 ≡ 0 → gcd_of a b ≡ 2 * gcd_of (a / 2) (b / 2)
gcd_halves a b e f = (λ i. gcd_of (sym (even_is a e) i) (sym (even_is b f) i)) ∙ gcd_mul 2 (omega arith) (a / 2) (b / 2) ∙ omega arith

-- after one remainder; and the divisor is at most the second
even_by : (n : ℕ) → (n % 2 ≡ 1 → ⊥) → n % 2 ≡ 0
even_by n h = go (n % 2) (mod-lt n {m = 2} (omega arith)) h
  where
    go : (d : ℕ) → d < 2 → (d ≡ 1 → ⊥) → d ≡ 0
    go zero l h = refl
    go (suc zero) l h = absurd (h refl)
    go (suc (suc d)) l h = absurd (omega arith)

pub gcd_both-even : (a b : ℕ) → 0 < b → (b % 2 ≡ 1 → ⊥) → (a % b % 2 ≡ 1 → ⊥) → 2 * gcd_of (b / 2) (a % b / 2) ≡ gcd_of a b
gcd_both-even a b h p q = sym (gcd_step a b h ∙ gcd_halves b (a % b) (even_by b p) (even_by (a % b) q))

pub gcd_under : (a b : ℕ) → 0 < b → gcd_of a b ≤ b
gcd_under a b h = le_of_dvd h (gcd_r a b)

-- with 1 there is no common divisor but 1
pub gcd_one : (a : ℕ) → gcd_of a 1 ≡ 1
gcd_one a = gcd_step a 1 (omega arith) ∙ ap (gcd_of 1) (mod-one a) ∙ gcd_zero 1

-- ── without its factors of 2 ──

-- n of k digits, divided by as many factors of 2 as it has
abbrev pub odd_part : ℕ → ℕ → ℕ
odd_part k n = n / 2 ^ count_trailing_zeros k n

half-again : (n t : ℕ) → n / 2 ^ suc t ≡ n / 2 / 2 ^ t
half-again n t = ap (λ (x : ℕ). n / x) (pow-succ' 2 t) ∙ sym (div-div-eq-div-mul n 2 (2 ^ t))

odd-digit : (n d : ℕ) → n % 2 ≡ suc d → n % 2 ≡ 1
odd-digit n d e = omega (arith, mod-lt n {m = 2} (omega arith))

halved : (k n : ℕ) → 0 < n → n < 2 ^ suc k → n % 2 ≡ 0 → (0 < n / 2) × (n / 2 < 2 ^ k)
halved k n h l e = (omega (arith, even_is n e), shr_lt k 1 (subst (λ (x : ℕ). n < 2 ^ x) (sym (native.Mathlib.Numerals.add-one k)) l))

pub trailing_less : (k n : ℕ) → 0 < n → n < 2 ^ k → count_trailing_zeros k n < k
unfolding count_trailing_zeros
trailing_less zero n h l = absurd (omega (arith, pow-zero 2))
trailing_less (suc k) n h l = go (n % 2) refl (λ p q. trailing_less k (n / 2) p q)
  where
    go : (d : ℕ) → n % 2 ≡ d → (0 < n / 2 → n / 2 < 2 ^ k → count_trailing_zeros k (n / 2) < k) → under d (count_trailing_zeros k (n / 2)) < suc k
    go zero e ih = let r = halved k n h l e in omega (arith, ih r.0 r.1)
    go (suc d) e ih = omega arith

pub odd-part-odd : (k n : ℕ) → 0 < n → n < 2 ^ k → odd_part k n % 2 ≡ 1
unfolding count_trailing_zeros
odd-part-odd zero n h l = absurd (omega (arith, pow-zero 2))
odd-part-odd (suc k) n h l = go (n % 2) refl (λ p q. odd-part-odd k (n / 2) p q)
  where
    go : (d : ℕ) → n % 2 ≡ d → (0 < n / 2 → n / 2 < 2 ^ k → odd_part k (n / 2) % 2 ≡ 1) → n / 2 ^ under d (count_trailing_zeros k (n / 2)) % 2 ≡ 1
    go zero e ih = let r = halved k n h l e in ap (λ (x : ℕ). x % 2) (half-again n (count_trailing_zeros k (n / 2))) ∙ ih r.0 r.1
    go (suc d) e ih = ap (λ (x : ℕ). x % 2) (div-one n) ∙ odd-digit n d e

pub gcd_odd-part : (a : ℕ) → a % 2 ≡ 1 → (k n : ℕ) → gcd_of a n ≡ gcd_of a (odd_part k n)
unfolding count_trailing_zeros
gcd_odd-part a o zero n = ap (gcd_of a) (sym (div-one n))
gcd_odd-part a o (suc k) n = go (n % 2) refl (gcd_odd-part a o k (n / 2))
  where
    go : (d : ℕ) → n % 2 ≡ d → gcd_of a (n / 2) ≡ gcd_of a (odd_part k (n / 2)) → gcd_of a n ≡ gcd_of a (n / 2 ^ under d (count_trailing_zeros k (n / 2)))
    go zero e ih =
        ap (gcd_of a) (sym (even_is n e)) ∙ gcd_twice a (n / 2) o ∙ ih ∙ ap (gcd_of a) (sym (half-again n (count_trailing_zeros k (n / 2))))
    go (suc d) e ih = ap (gcd_of a) (sym (div-one n))

-- ── the loop: an odd number and another, whose divisor stays ──

pub record Halving (a b x y : ℕ) : Type 0 where
  pub odd : x % 2 ≡ 1
  pub less : x < 2 ^ 64
  pub small : y < 2 ^ 64
  pub is : gcd_of x y ≡ gcd_of a b

module _ {a b x y : ℕ} (h : Halving a b x y) (n : 0 < y) where
  abbrev z : ℕ
  z = odd_part 64 y

  same : gcd_of x z ≡ gcd_of a b
  same = sym (gcd_odd-part x h.odd 64 y) ∙ h.is

  under_y : z ≤ y
  under_y = lib.Pow.shr_le y (count_trailing_zeros 64 y)

  pub halving_less : z < x → Halving a b z (x - z)
  halving_less l = record { odd = odd-part-odd 64 y n h.small; less = omega (arith, h.less); small = omega (arith, h.less); is = sym (gcd_minus x z (omega arith)) ∙ same }

  pub halving_more : x ≤ z → Halving a b x (z - x)
  halving_more l = record { odd = h.odd; less = h.less; small = omega (arith, under_y, h.small); is = sym (gcd_sym x z ∙ gcd_minus z x l) ∙ same }

  pub halving_falls : x ≤ z → z - x < y
  halving_falls l = omega (arith, under_y, n, odd_pos h.odd)
    where
      odd_pos : x % 2 ≡ 1 → 0 < x
      odd_pos e = go x e
        where
          go : (x : ℕ) → x % 2 ≡ 1 → 0 < x
          go zero e = absurd (omega arith)
          go (suc x) e = omega arith
