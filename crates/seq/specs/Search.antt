-- Where a test stops that, once it fails, fails on (`Steady`): by halves (`halve-stops`) and one cell after the other (`Scan`). Then what stands there: the start and the rest of a list
-- (`lead`, `trail`, `lead_at_lem`), an element put in its slot (`slotted_at`) or in its place in a list in strict order (`insert_at`, `insert_old`); and which tests fail on: those on a list in
-- order (`steady_by`). Assumes nothing.
use Rattle.std.specs.Prelude.{◌≡◌, refl, ◌≤◌, ◌<◌, ◌∷◌, ◌++◌, ◌+◌}
use Rattle.std.proofs.Common.{◌∙◌, ap, subst, inl, inr, suc-le-suc, not-suc-le-zero, le_of_suc-le-suc, arith}
use Rattle.std.proofs.Math.Decide.{dec_lt}
use Rattle.seq.specs.Seq.{Bool, true, false, cond, not, List, [], ℕ, zero, suc, length, get_or, take, drop, insert_by}
use Rattle.seq.specs.Terms.{Among, Pairs}
use Rattle.seq.specs.Tests.{clash, was-false, was-true}
use Rattle.seq.specs.Pairs.{pairs_at}
use Rattle.seq.specs.Halves.{Lasts, Halving}
use Rattle.seq.specs.Slotted.{slotted}

-- ── by halves ──

-- once it fails, t fails on
abbrev pub Steady : (ℕ → Bool) → ℕ → Type 0
Steady t n = (i j : ℕ) → i ≤ j → j < n → t i ≡ false → t j ≡ false

-- t stops at a: all below have it, and a has it not
pub record Stop (t : ℕ → Bool) (n a : ℕ) : Type 0 where
  pub within : a ≤ n
  pub passed : (i : ℕ) → i < a → t i ≡ true
  pub stops : a < n → t a ≡ false

module _ (t : ℕ → Bool) (n : ℕ) where
  -- that it fails is a test that lasts
  pub steady-lasts : Steady t n → Lasts (λ i. not (t i)) n
  steady-lasts S i j h l e = ap not (S i j (omega arith) l (was-false (t i) e))

  pub halve-stops : {a b : ℕ} → Halving (λ i. not (t i)) n a b → b ≤ a → Stop t n a
  halve-stops {a} {b} h l =
      let e : b ≡ a = omega (arith, h.ordered) in
      record { within = omega (arith, h.within); passed = λ i k. was-true (t i) (h.fails i k); stops = λ k. was-false (t a) (subst (λ (x : ℕ). not (t x) ≡ true) e (h.holds (omega arith))) }

-- ── one after the other ──

-- from a on all below i have t
pub record Scan (t : ℕ → Bool) (n a i : ℕ) : Type 0 where
  pub low : a ≤ i
  pub within : i ≤ n
  pub passed : (j : ℕ) → a ≤ j → j < i → t j ≡ true

-- and i has it not
pub record ScanStop (t : ℕ → Bool) (n a i : ℕ) : Type 0 where
  pub scan : Scan t n a i
  pub stops : i < n → t i ≡ false

module _ (t : ℕ → Bool) (n a : ℕ) where
  pub scan_starts : a ≤ n → Scan t n a a
  scan_starts h = record { low = omega arith; within = h; passed = λ j l r. absurd (omega arith) }

  pub scan_turns : {i : ℕ} → Scan t n a i → i < n → t i ≡ true → Scan t n a (i + 1)
  scan_turns {i} s h e = record {
    low = omega (arith, s.low);
    within = omega arith;
    passed = λ j l r. elim (dec_lt j i) [ yes q ↦ s.passed j l q | no q ↦ let f : i ≡ j = omega arith in subst (λ (k : ℕ). t k ≡ true) f e ];
  }

  pub scan-stops : {i : ℕ} → Scan t n a i → t i ≡ false → ScanStop t n a i
  scan-stops s e = record { scan = s; stops = λ h. e }

  pub scan_ends : {i : ℕ} → Scan t n a i → n ≤ i → ScanStop t n a n
  scan_ends {i} s h = let e : i ≡ n = omega (arith, s.within) in record { scan = subst (Scan t n a) e s; stops = λ l. absurd (omega arith) }

-- of the cells after the first
stop-rest : (t : ℕ → Bool) (n a : ℕ) → Stop t (suc n) (suc a) → Stop (λ i. t (suc i)) n a
stop-rest t n a s = record { within = omega (arith, s.within); passed = λ i h. s.passed (suc i) (suc-le-suc h); stops = λ h. s.stops (suc-le-suc h) }

-- ── the start and the rest of a list ──

-- the longest start that has t, and the rest
abbrev pub lead : {A : Type 0} → (A → Bool) → List A → List A
lead t [] = []
lead t (x ∷ xs) = let r = lead t xs in cond (t x) (x ∷ r) []

abbrev pub trail : {A : Type 0} → (A → Bool) → List A → List A
trail t [] = []
trail t (x ∷ xs) = let r = trail t xs in cond (t x) r (x ∷ xs)

module _ {A : Type 0} (t : A → Bool) where
  lead-step : (x : A) (l : List A) (b : Bool) → lead t l ++ trail t l ≡ l → cond b (x ∷ lead t l) [] ++ cond b (trail t l) (x ∷ l) ≡ x ∷ l
  lead-step x l true e = ap (λ (k : List A). x ∷ k) e
  lead-step x l false e = refl

  pub lead-trail : (l : List A) → lead t l ++ trail t l ≡ l
  lead-trail [] = refl
  lead-trail (x ∷ l) = lead-step x l (t x) (lead-trail l)

  lead_has-step : (x : A) (l : List A) (z : A) (b : Bool) → t x ≡ b → (Among z (lead t l) → t z ≡ true) → Among z (cond b (x ∷ lead t l) []) → t z ≡ true
  lead_has-step x l z true e ih (inl f) = ap t f ∙ e
  lead_has-step x l z true e ih (inr j) = ih j
  lead_has-step x l z false e ih j = absurd j

  pub lead_has : (l : List A) (z : A) → Among z (lead t l) → t z ≡ true
  lead_has [] z i = absurd i
  lead_has (x ∷ l) z i = lead_has-step x l z (t x) refl (lead_has l z) i

  trail-step : (x : A) (l : List A) (z : A) (b : Bool) → t x ≡ b → (Among z (trail t l) → t z ≡ false) → ((y : A) → Among y l → t x ≡ false → t y ≡ false) → Among z (cond b (trail t l) (x ∷ l)) → t z ≡ false
  trail-step x l z true e ih h j = ih j
  trail-step x l z false e ih h (inl f) = ap t f ∙ e
  trail-step x l z false e ih h (inr j) = h z j e

  -- where after one that has not t none has it, the rest has it not
  pub trail_has : (l : List A) → Pairs (λ x y. t x ≡ false → t y ≡ false) l → (z : A) → Among z (trail t l) → t z ≡ false
  trail_has [] h z i = absurd i
  trail_has (x ∷ l) h z i = trail-step x l z (t x) refl (trail_has l h.1 z) h.0 i

module _ {A : Type 0} (d : A) where
  module _ (t : A → Bool) where
    lead_true : (x : A) (xs : List A) (k : ℕ) (b : Bool) → b ≡ true → (lead t xs ≡ take k xs) × (trail t xs ≡ drop k xs) →
        (cond b (x ∷ lead t xs) [] ≡ x ∷ take k xs) × (cond b (trail t xs) (x ∷ xs) ≡ drop k xs)
    lead_true x xs k true e h = (ap (λ (l : List A). x ∷ l) h.0, h.1)
    lead_true x xs k false e h = absurd (clash e refl)

    lead_false : (x : A) (xs : List A) (b : Bool) → b ≡ false → (cond b (x ∷ lead t xs) [] ≡ []) × (cond b (trail t xs) (x ∷ xs) ≡ x ∷ xs)
    lead_false x xs true e = absurd (clash refl e)
    lead_false x xs false e = (refl, refl)

    -- a is where t stops: the start is the first a cells
    pub lead_at_lem : (l : List A) (a : ℕ) → Stop (λ i. t (get_or l i d)) (length l) a → (lead t l ≡ take a l) × (trail t l ≡ drop a l)
    lead_at_lem [] zero s = (refl, refl)
    lead_at_lem [] (suc a) s = absurd (not-suc-le-zero s.within)
    lead_at_lem (x ∷ xs) zero s = lead_false x xs (t x) (s.stops (omega arith))
    lead_at_lem (x ∷ xs) (suc a) s = lead_true x xs a (t x) (s.passed 0 (omega arith)) (lead_at_lem xs a (stop-rest (λ i. t (get_or (x ∷ xs) i d)) (length xs) a s))

  -- ── an element in its slot ──

  module _ (t : A → A → Bool) (x : A) where
    slot_step : (y : A) (ys k : List A) (b c : Bool) → b ≡ c → slotted t x ys ≡ k → cond b (x ∷ y ∷ ys) (y ∷ slotted t x ys) ≡ cond c (x ∷ y ∷ ys) (y ∷ k)
    slot_step y ys k b c e h = λ i. cond (e i) (x ∷ y ∷ ys) (y ∷ h i)

    -- a is the first that x is to stand before
    pub slotted_at : (l : List A) (a : ℕ) → Stop (λ i. not (t x (get_or l i d))) (length l) a → slotted t x l ≡ take a l ++ (x ∷ drop a l)
    slotted_at [] zero s = refl
    slotted_at [] (suc a) s = absurd (not-suc-le-zero s.within)
    slotted_at (y ∷ ys) zero s = slot_step y ys (slotted t x ys) (t x y) true (was-true (t x y) (s.stops (omega arith))) refl
    slotted_at (y ∷ ys) (suc a) s =
        slot_step y ys (take a ys ++ (x ∷ drop a ys)) (t x y) false (was-false (t x y) (s.passed 0 (omega arith))) (slotted_at ys a (stop-rest (λ i. not (t x (get_or (y ∷ ys) i d))) (length ys) a s))

  -- ── an element in its place ──

  module _ (b : A → A → Bool) (asym : (x y : A) → b x y ≡ true → b y x ≡ false) (x : A) where
    abbrev inserted : List A → List A
    inserted l = insert_by b (λ p r. r) x l

    insert-step : (y : A) (ys k : List A) (c e : Bool) → b x y ≡ c → b y x ≡ e → inserted ys ≡ k → inserted (y ∷ ys) ≡ cond c (x ∷ y ∷ ys) (cond e (y ∷ k) (y ∷ ys))
    insert-step y ys k c e p q h = λ i. cond (p i) (x ∷ y ∷ ys) (cond (q i) (y ∷ h i) (y ∷ ys))

    -- it is to stand at a, and is not there yet
    pub insert_at : (l : List A) (a : ℕ) → Stop (λ i. b (get_or l i d) x) (length l) a → (a < length l → b x (get_or l a d) ≡ true) → inserted l ≡ take a l ++ (x ∷ drop a l)
    insert_at [] zero s n = refl
    insert_at [] (suc a) s n = absurd (not-suc-le-zero s.within)
    insert_at (y ∷ ys) zero s n = insert-step y ys (inserted ys) true (b y x) (n (omega arith)) refl refl
    insert_at (y ∷ ys) (suc a) s n =
        insert-step y ys (take a ys ++ (x ∷ drop a ys)) false true (asym y x (s.passed 0 (omega arith))) (s.passed 0 (omega arith))
        (insert_at ys a (stop-rest (λ i. b (get_or (y ∷ ys) i d) x) (length ys) a s) (λ h. n (suc-le-suc h)))

    -- one like it stands there
    pub insert_old : (l : List A) (a : ℕ) → Stop (λ i. b (get_or l i d) x) (length l) a → a < length l → b x (get_or l a d) ≡ false → inserted l ≡ l
    insert_old [] a s h n = absurd (not-suc-le-zero h)
    insert_old (y ∷ ys) zero s h n = insert-step y ys (inserted ys) false false n (s.stops h) refl
    insert_old (y ∷ ys) (suc a) s h n =
        insert-step y ys ys false true (asym y x (s.passed 0 (omega arith))) (s.passed 0 (omega arith))
        (insert_old ys a (stop-rest (λ i. b (get_or (y ∷ ys) i d) x) (length ys) a s) (le_of_suc-le-suc h) n)

  -- ── which tests fail on ──

  -- where every pair of the list hands the failure on
  pub steady_by : (t : A → Bool) (l : List A) → Pairs (λ x y. t x ≡ false → t y ≡ false) l → Steady (λ i. t (get_or l i d)) (length l)
  steady_by t l p i j h k e =
      elim (dec_lt i j) [
        | yes q ↦ pairs_at (λ x y. t x ≡ false → t y ≡ false) l d p i j q k e
        | no q ↦ let f : i ≡ j = omega arith in subst (λ (m : ℕ). t (get_or l m d) ≡ false) f e
      ]
