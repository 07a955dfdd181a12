-- Of Least of specs/, what rests on its definitions.
use Rattle.std.specs.Prelude.{◌≡◌, refl, ◌≤◌, ◌<◌, ◌+◌, ◌-◌}
use Rattle.std.proofs.Common.{◌∙◌, ap, sym, not-suc-le-zero, le_refl, arith, ltb-true, ltb-false, lt-ltb, le-ltb}
use Rattle.std.proofs.Math.Decide.{dec_lt}
use Rattle.seq.specs.Seq.{Bool, true, false, cond, not, ℕ, zero, suc, ltb, least, the_some_below, all_below}
use Rattle.seq.specs.Tests.{clash, was-false, was-true}
use Rattle.seq.specs.Least.{next, least-ext}

module _ (p : ℕ → Bool) where
  -- ── what is found ──

  le_step : (r n : ℕ) (b c : Bool) → ltb r n ≡ b → next p r n b c ≤ suc n
  le_step r n true c e = omega (arith, ltb-true r n e)
  le_step r n false true e = omega arith
  le_step r n false false e = omega arith

  pub least-le : (n : ℕ) → least p n ≤ n
  least-le zero = le_refl 0
  least-le (suc n) = le_step (least p n) n (ltb (least p n) n) (p n) refl

  holds-step : (r n : ℕ) (b c : Bool) → ltb r n ≡ b → p n ≡ c → (r < n → p r ≡ true) → next p r n b c < suc n → p (next p r n b c) ≡ true
  holds-step r n true c e f ih h = ih (ltb-true r n e)
  holds-step r n false true e f ih h = f
  holds-step r n false false e f ih h = absurd (omega arith)

  -- where a number is found it has the property
  pub least-holds : (n : ℕ) → least p n < n → p (least p n) ≡ true
  least-holds zero h = absurd (not-suc-le-zero h)
  least-holds (suc n) h = holds-step (least p n) n (ltb (least p n) n) (p n) refl refl (least-holds n) h

  min_step : (r n : ℕ) (b c : Bool) → ltb r n ≡ b → p n ≡ c → ((k : ℕ) → k < r → p k ≡ false) → (k : ℕ) → k < next p r n b c → p k ≡ false
  min_step r n true c e f ih k h = ih k h
  min_step r n false true e f ih k h = ih k (omega (arith, ltb-false r n e))
  min_step r n false false e f ih k h =
      elim (dec_lt k n) [
        | yes q ↦ ih k (omega (arith, ltb-false r n e))
        | no q ↦ let s : k ≡ n = omega arith in ap p s ∙ f
      ]

  -- and no smaller one has it
  pub least_min : (n k : ℕ) → k < least p n → p k ≡ false
  least_min zero k h = absurd (not-suc-le-zero h)
  least_min (suc n) k h = min_step (least p n) n (ltb (least p n) n) (p n) refl refl (least_min n) k h

  -- a number that has the property bounds the least
  pub least_at_most : (n k : ℕ) → p k ≡ true → least p n ≤ k
  least_at_most n k e = elim (dec_lt k (least p n)) [ yes q ↦ absurd (clash e (least_min n k q)) | no q ↦ omega arith ]

  -- so that there is one
  pub least_below : (n k : ℕ) → k < n → p k ≡ true → least p n < n
  least_below n k h e = omega (arith, least_at_most n k e)

  -- ── what a loop asks ──

  -- k is found, and nothing before it
  pub least_is : (n k : ℕ) → k < n → ((j : ℕ) → j < k → p j ≡ false) → p k ≡ true → least p n ≡ k
  least_is n k h none e =
      elim (dec_lt (least p n) k) [
        | yes q ↦ absurd (clash (least-holds n (omega arith)) (none (least p n) q))
        | no q ↦ omega (arith, least_at_most n k e)
      ]

  -- nothing is found at all
  pub least_none : (n : ℕ) → ((j : ℕ) → j < n → p j ≡ false) → least p n ≡ n
  least_none n none =
      elim (dec_lt (least p n) n) [
        | yes q ↦ absurd (clash (least-holds n q) (none (least p n) q))
        | no q ↦ omega (arith, least-le n)
      ]

  -- and then none has the property
  pub none_is : (n : ℕ) → least p n ≡ n → (k : ℕ) → k < n → p k ≡ false
  none_is n e k h = least_min n k (omega arith)

  -- nothing found so far, and k is it
  pub least-found : (n k : ℕ) → k < n → least p k ≡ k → p k ≡ true → least p n ≡ k
  least-found n k h e f = least_is n k h (none_is k e) f

  -- both ways out of a search in one
  pub least_by : (n r : ℕ) → r ≤ n → ((k : ℕ) → k < r → p k ≡ false) → (r < n → p r ≡ true) → least p n ≡ r
  least_by n r h none hit =
      elim (dec_lt r n) [
        | yes q ↦ least_is n r q none (hit q)
        | no q ↦ let e : n ≡ r = omega arith in least_none n (λ j l. none j (omega arith)) ∙ e
      ]

  -- ── the_some_below ──

  pub some_has : (n k : ℕ) → k < n → p k ≡ true → the_some_below p n ≡ true
  some_has n k h e = lt-ltb (least p n) n (least_below n k h e)

  pub some_witness : (n : ℕ) → the_some_below p n ≡ true → (k : ℕ) × (k < n) × (p k ≡ true)
  some_witness n e = let h : least p n < n = ltb-true (least p n) n e in (least p n, h, least-holds n h)

  pub no_some : (n : ℕ) → ((k : ℕ) → k < n → p k ≡ false) → the_some_below p n ≡ false
  no_some n none = le-ltb (least p n) n (omega (arith, least_none n none))

  pub no_some_is : (n : ℕ) → the_some_below p n ≡ false → (k : ℕ) → k < n → p k ≡ false
  no_some_is n e k h = least_min n k (omega (arith, ltb-false (least p n) n e))

-- ── in two parts ──

-- the least of m + n: that of the first m, or where they have none, of the next n
pub least_on : (p : ℕ → Bool) (m n : ℕ) → least p (m + n) ≡ cond (ltb (least p m) m) (least p m) (m + least (λ i. p (m + i)) n)
least_on p m n =
    elim (dec_lt (least p m) m) [
      | yes q ↦ least_by p (m + n) (least p m) (omega arith) (λ k l. least_min p m k l) (λ l. least-holds p m q) ∙ sym (ap (λ (c : Bool). cond c (least p m) (m + least (λ i. p (m + i)) n)) (lt-ltb (least p m) m q))
      | no q ↦ least_by p (m + n) (m + least (λ i. p (m + i)) n) (omega (arith, least-le (λ i. p (m + i)) n))
          (λ k l. before k l (omega arith)) (λ l. least-holds (λ i. p (m + i)) n (omega arith))
          ∙ sym (ap (λ (c : Bool). cond c (least p m) (m + least (λ i. p (m + i)) n)) (le-ltb (least p m) m (omega arith)))
    ]
  where
    before : (k : ℕ) → k < m + least (λ i. p (m + i)) n → m ≤ least p m → p k ≡ false
    before k l h =
        elim (dec_lt k m) [
          | yes s ↦ least_min p m k (omega arith)
          | no s ↦ let e : m + (k - m) ≡ k = omega arith in ap p (sym e) ∙ least_min (λ i. p (m + i)) n (k - m) (omega arith)
        ]

-- ── tests that agree below the bound ──

module _ (p q : ℕ → Bool) where
  pub some_ext : (n : ℕ) → ((k : ℕ) → k < n → p k ≡ q k) → the_some_below p n ≡ the_some_below q n
  some_ext n h = ap (λ (r : ℕ). ltb r n) (least-ext p q n h)

-- ── all_below ──

module _ (p : ℕ → Bool) where
  pub all_is : (n : ℕ) → all_below p n ≡ true → (k : ℕ) → k < n → p k ≡ true
  all_is n e k h = was-true (p k) (no_some_is (λ j. not (p j)) n (was-false (the_some_below (λ j. not (p j)) n) e) k h)

  pub all_has : (n : ℕ) → ((k : ℕ) → k < n → p k ≡ true) → all_below p n ≡ true
  all_has n h = ap not (no_some (λ j. not (p j)) n (λ k l. ap not (h k l)))

  -- one more, and one that has it not
  pub all_more : (n : ℕ) → all_below p n ≡ true → p n ≡ true → all_below p (n + 1) ≡ true
  all_more n e f = all_has (n + 1) (λ k l. elim (dec_lt k n) [ yes s ↦ all_is n e k s | no s ↦ let q : k ≡ n = omega arith in ap p q ∙ f ])

  pub all_fails : (n k : ℕ) → k < n → p k ≡ false → all_below p n ≡ false
  all_fails n k l e = ap not (some_has (λ j. not (p j)) n k l (ap not e))
