-- Of Halves of specs/, what rests on its definitions.
use Rattle.std.specs.Prelude.{◌≡◌, ◌≤◌, ◌<◌, ◌+◌, ◌-◌, ◌/◌}
use Rattle.std.proofs.Common.{sym, ◌∙◌, ap, subst, add-zero, arith}
use Rattle.std.proofs.Math.Decide.{dec_lt}
use Rattle.seq.specs.Seq.{Bool, true, not, ℕ, least, count}
use Rattle.seq.specs.Terms.{Asymmetric}
use Rattle.seq.specs.Tests.{not-true}
use Rattle.seq.proofs.Least.{least-le, least-holds, least_min, least_by, least_is}
use Rattle.seq.specs.Count.{count_all, count_none, count-+}
use Rattle.seq.specs.Halves.{Halving, Lasts, reached, Rises}

-- ── a test that holds from some number on ──

module _ (p : ℕ → Bool) where
  -- nothing is left: it is the least
  pub halve_ends : {n lo hi : ℕ} → Halving p n lo hi → hi ≤ lo → lo ≡ least p n
  halve_ends {n} {lo} {hi} r h =
      let e : hi ≡ lo = omega (arith, r.ordered) in
      sym (least_by p n lo (omega (arith, r.within)) r.fails (λ q. ap p (sym e) ∙ r.holds (omega arith)))

-- ── what the least of them says ──

module _ (p : ℕ → Bool) (n : ℕ) (up : Lasts p n) where
  -- it holds from there on
  pub from_least : (j : ℕ) → least p n ≤ j → j < n → p j ≡ true
  from_least j l h =
      elim (dec_lt (least p n) j) [
        | yes s ↦ up (least p n) j s h (least-holds p n (omega arith))
        | no s ↦ let e : least p n ≡ j = omega arith in ap p (sym e) ∙ least-holds p n (omega arith)
      ]

  -- and it stands after all that have the test not
  pub least-counts : least p n ≡ count (λ i. not (p i)) n
  least-counts =
      let r = least p n in
      let m = n - r in
      let e : r + m ≡ n = omega (arith, least-le p n) in
      sym (ap (count (λ i. not (p i))) (sym e) ∙ count-+ (λ i. not (p i)) r m
      ∙ (λ t. count_all (λ i. not (p i)) r (λ k l. ap not (least_min p n k l)) t + count_none (λ i. not (p (r + i))) m (λ k l. ap not (from_least (r + k) (omega arith) (omega arith))) t) ∙ add-zero r)

-- ── rows in strict order ──

module _ {A : Type 0} (b : A → A → Bool) where
  -- ── the place of an element: the first row that is not before it ──

  module _ (f : ℕ → A) (n : ℕ) (q : A) (R : Rises {A = A} b f n) where
    -- an element that stands in row k is found there
    pub place_found : Asymmetric b → (k : ℕ) → k < n → f k ≡ q → least (reached {A = A} b f q) n ≡ k
    place_found asym k l e =
        least_is (reached {A = A} b f q) n k l (λ j s. ap not (subst (λ (x : A). b (f j) x ≡ true) e (R j k s l)))
        (ap not (not-true (b (f k) q) (λ g. let h : b q q ≡ true = subst (λ (x : A). b x q ≡ true) e g in asym q q h h)))
