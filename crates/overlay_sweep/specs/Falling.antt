-- The values of f below n, the last first (`falling`): its members, and an element put in its place where the list is in strict order (`falling-insert`, `falling_old`). Assumes nothing.
use Rattle.std.specs.Prelude.{◌≡◌, refl, ◌≤◌, ◌<◌, ◌∷◌, ◌+◌, ◌-◌}
use Rattle.std.proofs.Common.{sym, ◌∙◌, ap, inl, inr, ⊎_elim, add-one, arith}
use Rattle.std.proofs.Math.Decide.{dec_lt}
use Rattle.seq.specs.Seq.{Bool, true, false, cond, List, [], ℕ, zero, suc, length, insert_by}
use Rattle.seq.specs.Terms.{Among, Rising}

abbrev pub falling : {A : Type 0} → (ℕ → A) → ℕ → List A
falling f zero = []
falling f (suc n) = f n ∷ falling f n

module _ {A : Type 0} where
  falling_more : (f : ℕ → A) (n : ℕ) → falling f (n + 1) ≡ f n ∷ falling f n
  falling_more f n = ap (falling f) (add-one n)

  -- the first of them is the last value
  pub falling_first : (f : ℕ → A) (n : ℕ) → 0 < n → falling f n ≡ f (n - 1) ∷ falling f (n - 1)
  falling_first f n h = let e : n ≡ n - 1 + 1 = omega arith in ap (falling f) e ∙ falling_more f (n - 1)

  pub length-falling : (f : ℕ → A) (n : ℕ) → length (falling f n) ≡ n
  length-falling f zero = refl
  length-falling f (suc n) = ap suc (length-falling f n)

  pub falling-ext : (f g : ℕ → A) (n : ℕ) → ((k : ℕ) → k < n → f k ≡ g k) → falling f n ≡ falling g n
  falling-ext f g zero h = refl
  falling-ext f g (suc n) h = λ i. h n (omega arith) i ∷ falling-ext f g n (λ k l. h k (omega arith)) i

  -- ── members ──

  pub among-falling : (f : ℕ → A) (n i : ℕ) → i < n → Among (f i) (falling f n)
  among-falling f zero i h = absurd (omega arith)
  among-falling f (suc n) i h =
      elim (dec_lt i n) [
        | yes l ↦ inr (among-falling f n i l)
        | no l ↦ let e : i ≡ n = omega arith in inl (ap f e)
      ]

  pub falling-among : (f : ℕ → A) (n : ℕ) (z : A) → Among z (falling f n) → (i : ℕ) × (i < n) × (f i ≡ z)
  falling-among f zero z i = absurd i
  falling-among f (suc n) z i =
      ⊎_elim (λ e. (n, omega arith, sym e)) (λ j. let (k, l, e) = falling-among f n z j in (k, omega arith, e)) i

  module _ (b : A → A → Bool) where
    -- in a list in strict order a value comes before those of lower numbers
    pub falling-rises : (f : ℕ → A) (n : ℕ) → Rising b (falling f n) → (i j : ℕ) → i < j → j < n → b (f j) (f i) ≡ true
    falling-rises f zero r i j l h = absurd (omega arith)
    falling-rises f (suc n) r i j l h =
        elim (dec_lt j n) [
          | yes q ↦ falling-rises f n r.1 i j l q
          | no q ↦ let e : j ≡ n = omega arith in ap (λ (k : ℕ). b (f k) (f i)) e ∙ r.0 (f i) (among-falling f n i (omega arith))
        ]

    -- ── an element in its place ──

    module _ (asym : (x y : A) → b x y ≡ true → b y x ≡ false) (x : A) where
      abbrev inserted : List A → List A
      inserted l = insert_by b (λ p r. r) x l

      step : (y : A) (ys k : List A) (c e : Bool) → b x y ≡ c → b y x ≡ e → inserted ys ≡ k → inserted (y ∷ ys) ≡ cond c (x ∷ y ∷ ys) (cond e (y ∷ k) (y ∷ ys))
      step y ys k c e p q h = λ i. cond (p i) (x ∷ y ∷ ys) (cond (q i) (y ∷ h i) (y ∷ ys))

      -- the values from a on come before x; it comes before the one below a: it stands at a, and those from a on move up
      pub falling-insert : (f g : ℕ → A) (n a : ℕ) → a ≤ n → ((k : ℕ) → k < a → g k ≡ f k) → g a ≡ x → ((k : ℕ) → a ≤ k → k < n → g (suc k) ≡ f k)
          → ((k : ℕ) → a ≤ k → k < n → b (f k) x ≡ true) → (0 < a → b x (f (a - 1)) ≡ true) → falling g (suc n) ≡ inserted (falling f n)
      falling-insert f g zero a h low at up ahead behind = let e : 0 ≡ a = omega arith in λ i. (ap g e ∙ at) i ∷ []
      falling-insert f g (suc n) a h low at up ahead behind =
          elim (dec_lt n a) [
            | no l ↦
                (λ i. up n (omega arith) (omega arith) i ∷ falling-insert f g n a (omega arith) low at (λ k p q. up k p (omega arith)) (λ k p q. ahead k p (omega arith)) behind i)
                ∙ sym (step (f n) (falling f n) (inserted (falling f n)) false true (asym (f n) x (ahead n (omega arith) (omega arith))) (ahead n (omega arith) (omega arith)) refl)
            | yes l ↦
                let e : suc n ≡ a = omega arith in
                let m : a - 1 ≡ n = omega arith in
                (λ i. (ap g e ∙ at) i ∷ falling-ext g f (suc n) (λ k q. low k (omega arith)) i)
                ∙ sym (step (f n) (falling f n) (inserted (falling f n)) true (b (f n) x) (ap (λ (k : ℕ). b x (f k)) (sym m) ∙ behind (omega arith)) refl refl)
          ]

      -- the one below a is like it: nothing changes
      pub falling_old : (f : ℕ → A) (n a : ℕ) → a ≤ n → 0 < a → ((k : ℕ) → a ≤ k → k < n → b (f k) x ≡ true) → b (f (a - 1)) x ≡ false → b x (f (a - 1)) ≡ false → inserted (falling f n) ≡ falling f n
      falling_old f zero a h l ahead p q = absurd (omega arith)
      falling_old f (suc n) a h l ahead p q =
          elim (dec_lt n a) [
            | no s ↦
                step (f n) (falling f n) (falling f n) false true (asym (f n) x (ahead n (omega arith) (omega arith))) (ahead n (omega arith) (omega arith))
                (falling_old f n a (omega arith) l (λ k r t. ahead k r (omega arith)) p q)
            | yes s ↦
                let m : a - 1 ≡ n = omega arith in
                step (f n) (falling f n) (inserted (falling f n)) false false (ap (λ (k : ℕ). b x (f k)) (sym m) ∙ q) (ap (λ (k : ℕ). b (f k) x) (sym m) ∙ p) refl
          ]
