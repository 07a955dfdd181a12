-- A search by halves: of a test that, once it holds, holds from there on, the least number below n that has it. First any such test, by a loop and by a count; then the place of an element among
-- rows in strict order, the first row that is not before it; an element that stands there is found at its place. Assumes nothing.
use Rattle.std.specs.Prelude.{◌≡◌, ◌≤◌, ◌<◌, ◌+◌, ◌-◌, ◌/◌}
use Rattle.std.proofs.Common.{◌∙◌, ap, not-suc-le-zero, arith}
use Rattle.std.proofs.Math.Decide.{dec_lt}
use Rattle.seq.specs.Seq.{Bool, true, false, not, ℕ, table}
use Rattle.seq.specs.Terms.{Rising, Transitive}
use Rattle.seq.specs.Tests.{clash, not-true, was-false}
use Rattle.seq.specs.SameRows.{RisesBelow, pairs-rises, rises-pairs}

-- the middle
abbrev pub middle : ℕ → ℕ → ℕ
middle lo hi = lo + (hi - lo) / 2

pub middle_within : (lo hi : ℕ) → lo < hi → (lo ≤ middle lo hi) × (middle lo hi < hi)
middle_within lo hi h = omega arith

-- ── a test that holds from some number on ──

module _ (p : ℕ → Bool) where
  -- below n, where it holds it holds from there on
  abbrev pub Lasts : ℕ → Type 0
  Lasts n = (i j : ℕ) → i < j → j < n → p i ≡ true → p j ≡ true

  -- how far a loop has come: every number below lo fails, and hi has the test or is n
  pub record Halving (n lo hi : ℕ) : Type 0 where
    pub ordered : lo ≤ hi
    pub within : hi ≤ n
    pub fails : (k : ℕ) → k < lo → p k ≡ false
    pub holds : hi < n → p hi ≡ true

  pub halve_starts : (n : ℕ) → Halving n 0 n
  halve_starts n = record { ordered = omega arith; within = omega arith; fails = λ k h. absurd (not-suc-le-zero h); holds = λ h. absurd (omega arith) }

  -- it may start at any lo whose predecessor fails, and any hi that has the test
  pub halve-inside : (n lo hi : ℕ) → Lasts n → lo ≤ hi → hi ≤ n → (0 < lo → p (lo - 1) ≡ false) → (hi < n → p hi ≡ true) → Halving n lo hi
  halve-inside n lo hi up o w f h = record { ordered = o; within = w; fails = below; holds = h }
    where
      below : (k : ℕ) → k < lo → p k ≡ false
      below k l =
          elim (dec_lt k (lo - 1)) [
            | yes q ↦ not-true (p k) (λ e. clash (up k (lo - 1) q (omega arith) e) (f (omega arith)))
            | no q ↦ let s : k ≡ lo - 1 = omega arith in ap p s ∙ f (omega arith)
          ]

  module _ {n lo hi : ℕ} (r : Halving n lo hi) (mid : ℕ) (h : mid < hi) (l : lo ≤ mid) where
    -- the middle fails: on in the upper half
    pub halve_up : Lasts n → p mid ≡ false → Halving n (mid + 1) hi
    halve_up up e = record { ordered = omega arith; within = r.within; fails = below; holds = r.holds }
      where
        below : (k : ℕ) → k < mid + 1 → p k ≡ false
        below k q =
            elim (dec_lt k mid) [
              | yes s ↦ not-true (p k) (λ f. clash (up k mid s (omega (arith, r.within)) f) e)
              | no s ↦ let t : k ≡ mid = omega arith in ap p t ∙ e
            ]

    -- it holds: on in the lower half
    pub halve_down : p mid ≡ true → Halving n lo mid
    halve_down e = record { ordered = l; within = omega (arith, r.within); fails = r.fails; holds = λ q. e }

-- ── rows in strict order ──

module _ {A : Type 0} (b : A → A → Bool) where
  -- row i is before row j exactly by number
  abbrev pub Rises : (ℕ → A) → ℕ → Type 0
  Rises f n = RisesBelow (λ x y. b x y ≡ true) n f

  -- the rows of a list in strict order, and back
  pub rising-rises : (f : ℕ → A) (n : ℕ) → Rising b (table f n) → Rises f n
  rising-rises f n = pairs-rises (λ x y. b x y ≡ true) n f

  pub rises-rising : (f : ℕ → A) (n : ℕ) → Rises f n → Rising b (table f n)
  rises-rising f n = rises-pairs (λ x y. b x y ≡ true) n f

  -- ── the place of an element: the first row that is not before it ──

  abbrev pub reached : (ℕ → A) → A → ℕ → Bool
  reached f q k = not (b (f k) q)

  module _ (f : ℕ → A) (n : ℕ) (q : A) (R : Rises f n) where
    -- once a row is not before q, none after it is
    pub place-lasts : (P : A → Type 0) → Transitive b P → ((k : ℕ) → k < n → P (f k)) → P q → Lasts (reached f q) n
    place-lasts P trans every pq i j s k e = ap not (not-true (b (f j) q) (λ g. clash (trans (f i) (f j) q (every i (omega arith)) (every j k) pq (R i j s k) g) (was-false (b (f i) q) e)))
