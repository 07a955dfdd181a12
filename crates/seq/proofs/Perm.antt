-- Of Perm of specs/, what rests on its definitions.
use Rattle.std.specs.Prelude.{◌≡◌, refl, ◌<◌, ◌∷◌, ◌++◌, ◌+◌, ◌-◌}
use Rattle.std.proofs.Common.{sym, ◌∙◌, ap, subst, suc-le-suc, arith, eqb-true, eq-eqb}
use Rattle.std.proofs.Math.Decide.{dec_lt}
use Rattle.seq.specs.Seq.{[], ℕ, zero, suc, eqb}
use Rattle.seq.specs.Terms.{Among, iter, orbit, steps, Reach, Injects}
use Rattle.seq.specs.Tests.{clash}
use Rattle.seq.proofs.Least.{least_min, least-holds}
use Rattle.seq.specs.Perm.{iter-once, iter-into, iter-+, pigeon, iter_in, orbit_has, reach-trans}

-- ── steps ──

module _ (f : ℕ → ℕ) where
  -- ── an injective f ──

  module _ (n : ℕ) (I : Injects f n) where
    module _ (h : ℕ) (l : h < n) where
      -- if it did not come back all would differ
      rises : ((k : ℕ) → k < n → f (iter f k h) ≡ h → ⊥) → (i j : ℕ) → j < suc n → i < j → iter f i h ≡ iter f j h → ⊥
      rises w i j m q e =
          w (j - suc i) (omega arith)
          (sym (iter-once f n I i h (f (iter f (j - suc i) h)) l (I.into _ (iter-into f n I (j - suc i) h l))
          (e ∙ ap (λ (k : ℕ). iter f k h) (split i j q) ∙ iter-+ f i (suc (j - suc i)) h)))
        where
          split : (i j : ℕ) → i < j → j ≡ i + suc (j - suc i)
          split i j q = omega arith

      differ : ((k : ℕ) → k < n → f (iter f k h) ≡ h → ⊥) → (i j : ℕ) → i < suc n → j < suc n → iter f i h ≡ iter f j h → i ≡ j
      differ w i j p q e =
          elim (dec_lt i j) [
            | yes s ↦ absurd (rises w i j q s e)
            | no s ↦ elim (dec_lt j i) [ yes t ↦ absurd (rises w j i p t (sym e)) | no t ↦ omega arith ]
          ]

      pub steps_below : steps f n h < n
      steps_below =
          elim (dec_lt (steps f n h) n) [
            | yes q ↦ q
            | no q ↦ absurd (pigeon n (λ i. iter f i h) (λ i m. (iter-into f n I) i h l)
                (differ (λ k m e. clash (eq-eqb (f (iter f k h)) h e) (least_min (λ k. eqb (f (iter f k h)) h) n k (omega arith)))))
          ]

      pub comes_back : f (iter f (steps f n h) h) ≡ h
      comes_back = eqb-true _ _ (least-holds (λ k. eqb (f (iter f k h)) h) n steps_below)

      pub not_before : (k : ℕ) → k < steps f n h → f (iter f k h) ≡ h → ⊥
      not_before k m e = clash (eq-eqb (f (iter f k h)) h e) (least_min (λ k. eqb (f (iter f k h)) h) n k m)

      -- f h reaches h: f can be gone back
      pub reach_back : Reach f (f h) h
      reach_back = (steps f n h, iter_in f (steps f n h) h ∙ comes_back)

      -- every number met from h is in the orbit
      inside : (k : ℕ) → (j : ℕ) × (j < suc (steps f n h)) × (iter f j h ≡ iter f k h)
      inside zero = (0, omega arith, refl)
      inside (suc k) = go (inside k)
        where
          go : (j : ℕ) × (j < suc (steps f n h)) × (iter f j h ≡ iter f k h) → (j : ℕ) × (j < suc (steps f n h)) × (iter f j h ≡ f (iter f k h))
          go (j, m, e) =
              elim (dec_lt j (steps f n h)) [
                | yes q ↦ (suc j, suc-le-suc q, ap f e)
                | no q ↦ let s : steps f n h ≡ j = omega arith in (0, omega arith, sym comes_back ∙ ap (λ (i : ℕ). f (iter f i h)) s ∙ ap f e)
              ]

      pub all_in : (y : ℕ) → Reach f h y → Among y (orbit f (suc (steps f n h)) h)
      all_in y (k, e) = let r = inside k in subst (λ (z : ℕ). Among z (orbit f (suc (steps f n h)) h)) (r.2 ∙ e) (orbit_has f (suc (steps f n h)) r.0 h r.1)

    pub reach_sym : (k h : ℕ) → h < n → Reach f (iter f k h) h
    reach_sym zero h l = (0, refl)
    reach_sym (suc k) h l = reach-trans f (reach_back (iter f k h) (iter-into f n I k h l)) (reach_sym k h l)

    -- every number is taken, once
    pub onto : (h : ℕ) → h < n → (k : ℕ) × (k < n) × (f k ≡ h)
    onto h l = (iter f (steps f n h) h, iter-into f n I (steps f n h) h l, comes_back h l)
