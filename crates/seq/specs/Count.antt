-- Counts below a bound. First what a loop asks, then what a theorem asks: the count grows with the bound, each number that is counted has a rank of its
-- own, each rank below the count is some number's, a property that implies another is had by no more numbers, and of three properties of which each number has
-- one the counts add up. Assumes nothing.
use Rattle.std.specs.Prelude.{◌⊎◌, ◌≡◌, refl, ◌≤◌, ◌<◌, ◌||◌, ◌+◌}
use Rattle.std.proofs.Common.{inl, inr, sym, ◌∙◌, ap, not-suc-le-zero, le_refl, add-suc, add-zero, add-one, arith}
use Rattle.std.proofs.Math.Decide.{dec_lt}
use Rattle.seq.specs.Seq.{Bool, true, false, cond, not, ℕ, zero, suc, count}
use Rattle.seq.specs.Tests.{clash, never}

module _ (p : ℕ → Bool) where
  -- ── what a loop asks ──

  pub count_more : (n : ℕ) → p n ≡ true → count p (n + 1) ≡ count p n + 1
  count_more n e = rw (add-one n, e, add-one (count p n))

  pub count-skip : (n : ℕ) → p n ≡ false → count p (n + 1) ≡ count p n
  count-skip n e = rw (add-one n, e)

  le_step : (r n : ℕ) (c : Bool) → r ≤ n → cond c (suc r) r ≤ suc n
  le_step r n true h = omega arith
  le_step r n false h = omega arith

  pub count-le : (n : ℕ) → count p n ≤ n
  count-le zero = le_refl 0
  count-le (suc n) = le_step (count p n) n (p n) (count-le n)

  -- ── none, all, two parts ──

  pub count_none : (n : ℕ) → ((k : ℕ) → k < n → p k ≡ false) → count p n ≡ 0
  count_none zero h = refl
  count_none (suc n) h = rw (h n (omega arith), count_none n (λ k l. h k (omega arith)))

  pub count_all : (n : ℕ) → ((k : ℕ) → k < n → p k ≡ true) → count p n ≡ n
  count_all zero h = refl
  count_all (suc n) h = rw (h n (omega arith), count_all n (λ k l. h k (omega arith)))

  split_step : (a b : ℕ) (c : Bool) → cond c (suc (a + b)) (a + b) ≡ a + cond c (suc b) b
  split_step a b true = sym (add-suc a b)
  split_step a b false = refl

  -- the count to m + n is the count to m and the count of the n from m on
  pub count-+ : (m n : ℕ) → count p (m + n) ≡ count p m + count (λ k. p (m + k)) n
  count-+ m zero = ap (count p) (add-zero m) ∙ sym (add-zero (count p m))
  count-+ m (suc n) = rw (add-suc m n, count-+ m n) (split_step (count p m) (count (λ k. p (m + k)) n) (p (m + n)))

  -- ── ranks ──

  rise-step : (r : ℕ) (c : Bool) → r ≤ cond c (suc r) r
  rise-step r true = omega arith
  rise-step r false = omega arith

  pub count-rises : (m n : ℕ) → m ≤ n → count p m ≤ count p n
  count-rises m zero h = let e : m ≡ 0 = omega arith in rw e (le_refl 0)
  count-rises m (suc n) h =
      elim (dec_lt n m) [
        | yes q ↦ let e : m ≡ suc n = omega arith in rw e (le_refl (count p (suc n)))
        | no q ↦ omega (arith, count-rises m n (omega arith), rise-step (count p n) (p n))
      ]

  -- the lesser count is of the lesser bound
  pub count_before : (m n : ℕ) → count p m < count p n → m < n
  count_before m n h = elim (dec_lt m n) [ yes q ↦ q | no q ↦ absurd (omega (arith, count-rises n m (omega arith))) ]

  -- the rank of a number that is counted is below the count
  pub count_below : (n k : ℕ) → k < n → p k ≡ true → count p k < count p n
  count_below n k h e = omega (arith, count_more k e, count-rises (k + 1) n (omega arith))

  -- and is its own
  pub count-once : (j k : ℕ) → p j ≡ true → p k ≡ true → count p j ≡ count p k → j ≡ k
  count-once j k e f q =
      elim (dec_lt j k) [
        | yes s ↦ absurd (omega (arith, count_below k j s e))
        | no s ↦ elim (dec_lt k j) [ yes t ↦ absurd (omega (arith, count_below j k t f)) | no t ↦ omega arith ]
      ]

  onto-step : (n r : ℕ) (c : Bool) → p n ≡ c → (r < count p n → (k : ℕ) × (k < n) × (p k ≡ true) × (count p k ≡ r)) → r < cond c (suc (count p n)) (count p n)
      → (k : ℕ) × (k < suc n) × (p k ≡ true) × (count p k ≡ r)
  onto-step n r false e ih h = let s = ih h in (s.0, omega (arith, s.1), s.2, s.3)
  onto-step n r true e ih h =
      elim (dec_lt r (count p n)) [
        | yes q ↦ let s = ih q in (s.0, omega (arith, s.1), s.2, s.3)
        | no q ↦ (n, omega arith, e, omega arith)
      ]

  -- and each number below the count is a rank
  pub count-onto : (n r : ℕ) → r < count p n → (k : ℕ) × (k < n) × (p k ≡ true) × (count p k ≡ r)
  count-onto zero r h = absurd (not-suc-le-zero h)
  count-onto (suc n) r h = onto-step n r (p n) refl (count-onto n r) h

-- tests that agree below the bound
pub count-ext : (p q : ℕ → Bool) (n : ℕ) → ((k : ℕ) → k < n → p k ≡ q k) → count p n ≡ count q n
count-ext p q zero h = refl
count-ext p q (suc n) h = rw (count-ext p q n (λ k l. h k (omega arith)), h n (omega arith))

-- ── a property that implies another ──

module _ (p q : ℕ → Bool) where
  sub-step : (r s : ℕ) (c d : Bool) → (c ≡ true → d ≡ true) → r ≤ s → cond c (suc r) r ≤ cond d (suc s) s
  sub-step r s true true h l = omega arith
  sub-step r s true false h l = absurd (clash (h refl) refl)
  sub-step r s false true h l = omega arith
  sub-step r s false false h l = l

  pub count-sub : (n : ℕ) → ((k : ℕ) → k < n → p k ≡ true → q k ≡ true) → count p n ≤ count q n
  count-sub zero h = le_refl 0
  count-sub (suc n) h = sub-step (count p n) (count q n) (p n) (q n) (h n (omega arith)) (count-sub n (λ k l. h k (omega arith)))

  fewer-step : (r s : ℕ) (c d : Bool) → (c ≡ true → d ≡ true) → r < s → cond c (suc r) r < cond d (suc s) s
  fewer-step r s true true h l = omega arith
  fewer-step r s true false h l = absurd (clash (h refl) refl)
  fewer-step r s false true h l = omega arith
  fewer-step r s false false h l = l

  -- and fewer have it where one that has the other has it not
  pub count-fewer : (n k : ℕ) → ((k : ℕ) → k < n → p k ≡ true → q k ≡ true) → k < n → p k ≡ false → q k ≡ true → count p n < count q n
  count-fewer zero k h l e g = absurd (not-suc-le-zero l)
  count-fewer (suc n) k h l e g =
      elim (dec_lt k n) [
        | yes s ↦ fewer-step (count p n) (count q n) (p n) (q n) (h n (omega arith)) (count-fewer n k (λ j m. h j (omega arith)) s e g)
        | no s ↦ let t : k ≡ n = omega arith in rw (ap p (sym t) ∙ e, ap q (sym t) ∙ g) (omega (arith, count-sub n (λ j m. h j (omega arith))))
      ]

-- ── exactly one of three ──

abbrev pub one_of : Bool → Bool → Bool → Bool
one_of a b c = cond a (not (b || c)) (cond b (not c) c)

pub one_of_three : (a b c : Bool) → one_of a b c ≡ true → (a ≡ true) ⊎ ((b ≡ true) ⊎ (c ≡ true))
one_of_three true b c e = inl refl
one_of_three false true c e = inr (inl refl)
one_of_three false false true e = inr (inr refl)
one_of_three false false false e = never e

pub one_not_two : (a b c : Bool) → one_of a b c ≡ true → a ≡ true → b ≡ true → ⊥
one_not_two true true c e f h = never e
one_not_two true false c e f h = never h
one_not_two false b c e f h = never f

pub third-alone : (a b c : Bool) → one_of a b c ≡ true → c ≡ true → (a ≡ true) ⊎ (b ≡ true) → ⊥
third-alone true true c e f h = never e
third-alone true false true e f h = never e
third-alone true false false e f h = never f
third-alone false true true e f h = never e
third-alone false true false e f h = never f
third-alone false false c e f (inl h) = never h
third-alone false false c e f (inr h) = never h

one_step : (x y z : ℕ) (a b c : Bool) → one_of a b c ≡ true → cond a (suc x) x + cond b (suc y) y + cond c (suc z) z ≡ suc (x + y + z)
one_step x y z true true c e = never e
one_step x y z true false true e = never e
one_step x y z true false false e = omega arith
one_step x y z false true true e = never e
one_step x y z false true false e = omega arith
one_step x y z false false true e = omega arith
one_step x y z false false false e = never e

pub count_three : (p q r : ℕ → Bool) (n : ℕ) → ((k : ℕ) → k < n → one_of (p k) (q k) (r k) ≡ true) → count p n + count q n + count r n ≡ n
count_three p q r zero h = refl
count_three p q r (suc n) h = one_step (count p n) (count q n) (count r n) (p n) (q n) (r n) (h n (omega arith)) ∙ ap suc (count_three p q r n (λ k l. h k (omega arith)))
