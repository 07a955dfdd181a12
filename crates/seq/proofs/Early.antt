-- Of Early of specs/, what rests on its definitions.
use Rattle.std.specs.Prelude.{◌≡◌, ◌≤◌, ◌<◌, ◌+◌, ◌-◌}
use Rattle.std.proofs.Common.{sym, ◌∙◌, ap, subst, arith}
use Rattle.std.proofs.Math.Decide.{dec_lt}
use Rattle.seq.specs.Seq.{Bool, true, false, Option, none, some, Option·map, ℕ, least, best}
use Rattle.seq.specs.Terms.{Has, Order, BestIs, Injects}
use Rattle.seq.specs.Tests.{clash}
use Rattle.seq.proofs.Perm.{onto}
use Rattle.seq.proofs.Least.{least-le, least-holds}
use Rattle.seq.specs.Best.{best_is, best_some, best_none}

-- ── in any order ──

module _ (A : ℕ → Bool) (B : ℕ → ℕ → Bool) (n : ℕ) (O : Order A B n) (asym : (x y : ℕ) → Has A n x → Has A n y → B x y ≡ true → B y x ≡ false)
    (f : ℕ → ℕ) (I : Injects f n) where
  abbrev A' : ℕ → Bool
  A' i = A (f i)

  abbrev B' : ℕ → ℕ → Bool
  B' i j = B (f i) (f j)

  -- the candidates in the first r places are all that there are
  module _ (r : ℕ) (few : r ≤ n) (rest : (j : ℕ) → r ≤ j → j < n → A (f j) ≡ false) where
    in_all : {i : ℕ} → Has A' r i → Has A n (f i)
    in_all {i} h = record { below = I.into i (omega (arith, h.below)); has = h.has }

    read : (k : ℕ) → Has A n k → (i : ℕ) × Has A' r i × (f i ≡ k)
    read k h =
        let (i, l, e) = onto f n I k h.below in
        let c : A (f i) ≡ true = ap A e ∙ h.has in
        (i, record { below = elim (dec_lt i r) [ yes s ↦ s | no s ↦ absurd (clash c (rest i (omega arith) l)) ]; has = c }, e)

    order' : Order A' B' r
    order' = record {
      trans = λ x y z hx hy hz. O.trans (f x) (f y) (f z) (in_all hx) (in_all hy) (in_all hz);
      total = λ x y hx hy e. O.total (f x) (f y) (in_all hx) (in_all hy) (λ q. e (I.once x y (omega (arith, hx.below)) (omega (arith, hy.below)) q));
    }

    found : (o : Option ℕ) → BestIs A' B' r o → Option·map f o ≡ best A B n
    found none h = sym (best_none A B n (λ k c. let (i, a, e) = read k c in h i a))
    found (some i) h =
        sym (best_some A B n (f i) O asym record {
          is = in_all h.is;
          beats = λ k c d. let (j, a, e) = read k c in subst (λ (x : ℕ). B (f i) x ≡ true) e (h.beats j a (λ q. d (sym e ∙ ap f q)));
        })

    pub some_best : Option·map f (best (λ i. A (f i)) (λ i j. B (f i) (f j)) r) ≡ best A B n
    some_best = found (best A' B' r) (best_is A' B' r order')

  -- up to the first place that says stop
  pub early-best : (stop : ℕ → Bool) → ((i j : ℕ) → i ≤ j → j < n → stop i ≡ true → A (f j) ≡ false) →
      Option·map f (best (λ i. A (f i)) (λ i j. B (f i) (f j)) (least stop n)) ≡ best A B n
  early-best stop none_after =
      some_best (least stop n) (least-le stop n) (λ j l h. none_after (least stop n) j l h (least-holds stop n (omega arith)))
