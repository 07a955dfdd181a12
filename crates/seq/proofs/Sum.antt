-- Of Sum of specs/, what rests on its definitions.
use Rattle.std.specs.Prelude.{◌≡◌, ◌≤◌, ◌<◌, ◌∷◌, ◌++◌, ◌+◌, ◌*◌, ◌+ℤ◌, ◌-ℤ◌, ◌*ℤ◌}
use Rattle.std.proofs.Math.Path.{sym, ap}
use Rattle.std.proofs.Common.{◌∙◌}
use Rattle.exact.specs.Order.{pos-once}
use Rattle.seq.specs.Seq.{Bool, [], ℕ, eqb, count, ℤ}
use Rattle.seq.specs.Terms.{Injects, sum, upto, ind}
use Rattle.seq.specs.Tests.{eqb_iff}
use Rattle.seq.proofs.Perm.{onto}
use Rattle.seq.specs.Sum.{sum-ext, upto-<, delta, exchange, sum-count}

-- ── a count, and a sum in another order ──

module _ (f : ℕ → ℕ) (n : ℕ) (I : Injects f n) (g : ℕ → ℤ) where
  -- f takes j at k alone
  taken : (j k : ℕ) → k < n → f k ≡ j → (i : ℕ) → i < n → eqb j (f i) ≡ eqb i k
  taken j k h e i l = eqb_iff j (f i) i k (λ q. I.once i k l h (sym q ∙ sym e)) (λ q. sym e ∙ ap f (sym q))

  one_of : (j : ℕ) → j < n → sum (upto n) (λ i. ind (eqb j (f i)) *ℤ g j) ≡ g j
  one_of j l =
      let r = onto f n I j l in
      sum-ext (upto n) {f = λ i. ind (eqb j (f i)) *ℤ g j} {g = λ i. ind (eqb i r.0) *ℤ g j} (λ i m. ap (λ (c : Bool). ind c *ℤ g j) (taken j r.0 r.1 r.2 i (upto-< n m)))
      ∙ delta n r.0 (λ i. g j) r.1

  -- a sum over the numbers below n does not change where they are permuted
  pub sum_perm : sum (upto n) (λ i. g (f i)) ≡ sum (upto n) g
  sum_perm =
      sum-ext (upto n) {f = λ i. g (f i)} {g = λ i. sum (upto n) (λ j. ind (eqb j (f i)) *ℤ g j)} (λ i m. sym (delta n (f i) g (I.into i (upto-< n m))))
      ∙ exchange (upto n) (upto n) (λ i j. ind (eqb j (f i)) *ℤ g j)
      ∙ sum-ext (upto n) {f = λ j. sum (upto n) (λ i. ind (eqb j (f i)) *ℤ g j)} {g = g} (λ j m. one_of j (upto-< n m))

-- so a count does not depend on the order
pub count_perm : (f : ℕ → ℕ) (n : ℕ) → Injects f n → (p : ℕ → Bool) → count (λ i. p (f i)) n ≡ count p n
count_perm f n I p = pos-once (count (λ i. p (f i)) n) (count p n) (sym (sum-count (λ i. p (f i)) n) ∙ sum_perm f n I (λ k. ind (p k)) ∙ sum-count p n)
