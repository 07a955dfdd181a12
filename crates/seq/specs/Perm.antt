-- An injective function f from the numbers below n to themselves: each number comes back to itself within n steps, so that f is a permutation. No
-- injection into fewer numbers; steps and orbits; then the return, and that every number is taken. Assumes nothing.
use Rattle.std.specs.Prelude.{◌≡◌, refl, ◌<◌, ◌∷◌, ◌++◌, ◌+◌, ◌-◌}
use Rattle.std.proofs.Common.{sym, ◌∙◌, ap, subst, inl, inr, suc-le-suc, not-suc-le-zero, le_of_suc-le-suc, zero-add, suc-add, arith, eqb-true}
use Rattle.std.proofs.lemmas.Bool.{eqb-false}
use Rattle.seq.specs.Seq.{Bool, true, false, cond, List, [], ℕ, zero, suc, eqb, length}
use Rattle.seq.specs.Terms.{Among, iter, orbit, Reach, Injects}

-- ── no injection into fewer ──

-- the value n is taken out: what has it gets the value of the last instead
abbrev swap : (ℕ → ℕ) → ℕ → ℕ → ℕ
swap f n i = cond (eqb (f i) n) (f (suc n)) (f i)

module _ (n : ℕ) (f : ℕ → ℕ) (b : (i : ℕ) → i < suc (suc n) → f i < suc n) (inj : (i j : ℕ) → i < suc (suc n) → j < suc (suc n) → f i ≡ f j → i ≡ j) where
  below_by : (i : ℕ) → i < suc n → (c : Bool) → eqb (f i) n ≡ c → cond c (f (suc n)) (f i) < n
  below_by i l true e = omega (arith, b (suc n) (omega arith), away)
    where
      away : f (suc n) ≡ n → ⊥
      away q = omega (arith, inj i (suc n) (omega arith) (omega arith) (eqb-true (f i) n e ∙ sym q))
  below_by i l false e = omega (arith, b i (omega arith), eqb-false (f i) n e)

  inj_by : (i j : ℕ) → i < suc n → j < suc n → (c d : Bool) → eqb (f i) n ≡ c → eqb (f j) n ≡ d → cond c (f (suc n)) (f i) ≡ cond d (f (suc n)) (f j) → i ≡ j
  inj_by i j l m true true e g q = inj i j (omega arith) (omega arith) (eqb-true (f i) n e ∙ sym (eqb-true (f j) n g))
  inj_by i j l m true false e g q = omega (arith, inj (suc n) j (omega arith) (omega arith) q)
  inj_by i j l m false true e g q = omega (arith, inj i (suc n) (omega arith) (omega arith) q)
  inj_by i j l m false false e g q = inj i j (omega arith) (omega arith) q

pub pigeon : (n : ℕ) (f : ℕ → ℕ) → ((i : ℕ) → i < suc n → f i < n) → ((i j : ℕ) → i < suc n → j < suc n → f i ≡ f j → i ≡ j) → ⊥
pigeon zero f b inj = not-suc-le-zero (b 0 (omega arith))
pigeon (suc n) f b inj =
    pigeon n (swap f n) (λ i l. below_by n f b inj i l (eqb (f i) n) refl)
    (λ i j l m. inj_by n f b inj i j l m (eqb (f i) n) (eqb (f j) n) refl refl)

-- ── steps ──

module _ (f : ℕ → ℕ) where
  pub iter_in : (k x : ℕ) → iter f k (f x) ≡ f (iter f k x)
  iter_in zero x = refl
  iter_in (suc k) x = ap f (iter_in k x)

  pub iter-+ : (j k x : ℕ) → iter f (j + k) x ≡ iter f j (iter f k x)
  iter-+ zero k x = ap (λ (m : ℕ). iter f m x) (zero-add k)
  iter-+ (suc j) k x = ap (λ (m : ℕ). iter f m x) (suc-add j k) ∙ ap f (iter-+ j k x)

  pub orbit_has : (k j x : ℕ) → j < k → Among (iter f j x) (orbit f k x)
  orbit_has zero j x l = absurd (not-suc-le-zero l)
  orbit_has (suc k) zero x l = inl refl
  orbit_has (suc k) (suc j) x l = inr (subst (λ (y : ℕ). Among y (orbit f k (f x))) (iter_in j x) (orbit_has k j (f x) (le_of_suc-le-suc l)))

  pub orbit_from : (k x y : ℕ) → Among y (orbit f k x) → (j : ℕ) × (j < k) × (iter f j x ≡ y)
  orbit_from zero x y i = absurd i
  orbit_from (suc k) x y (inl e) = (0, omega arith, sym e)
  orbit_from (suc k) x y (inr i) = let r = orbit_from k (f x) y i in (suc r.0, suc-le-suc r.1, sym (iter_in r.0 x) ∙ r.2)

  -- one step more at the end
  pub orbit_more : (k x : ℕ) → orbit f (suc k) x ≡ orbit f k x ++ (iter f k x ∷ [])
  orbit_more zero x = refl
  orbit_more (suc k) x = ap (λ (l : List ℕ). x ∷ l) (orbit_more k (f x) ∙ ap (λ (y : ℕ). orbit f k (f x) ++ (y ∷ [])) (iter_in k x))

  pub length-orbit : (k x : ℕ) → length (orbit f k x) ≡ k
  length-orbit zero x = refl
  length-orbit (suc k) x = ap suc (length-orbit k (f x))

  pub reach-trans : {x y z : ℕ} → Reach f x y → Reach f y z → Reach f x z
  reach-trans {x} {y} {z} (j, e) (k, g) = (k + j, iter-+ k j x ∙ ap (iter f k) e ∙ g)

  -- ── an injective f ──

  module _ (n : ℕ) (I : Injects f n) where
    pub iter-into : (k x : ℕ) → x < n → iter f k x < n
    iter-into zero x l = l
    iter-into (suc k) x l = I.into (iter f k x) (iter-into k x l)

    pub iter-once : (k x y : ℕ) → x < n → y < n → iter f k x ≡ iter f k y → x ≡ y
    iter-once zero x y l m e = e
    iter-once (suc k) x y l m e = iter-once k x y l m (I.once (iter f k x) (iter f k y) (iter-into k x l) (iter-into k y m) e)
