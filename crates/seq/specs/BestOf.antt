-- The best of a list that has a first element: it is one of them; where the comparison is a strict order of them none is better; and what beats
-- all others is the best. Then the least number of a list. Assumes nothing.
use Rattle.std.specs.Prelude.{◌≡◌, refl, ◌≤◌, ◌∷◌, ◌++◌}
use Rattle.std.proofs.Common.{sym, subst, inl, inr, arith, ltb-true, ltb-false, lt-ltb, le-ltb}
use Rattle.std.proofs.Math.Decide.{ℕ_discrete}
use Rattle.seq.specs.Seq.{Bool, true, false, cond, List, [], ℕ, ltb, best_of}
use Rattle.seq.specs.Terms.{Among, Every, Transitive}
use Rattle.seq.specs.Tests.{clash, not-true}
use Rattle.seq.specs.Members.{in_every}

module _ (b : ℕ → ℕ → Bool) where
  in_step : (x y : ℕ) (ys : List ℕ) (c : Bool) → Among (best_of b (cond c y x) ys) (cond c y x ∷ ys) → Among (best_of b (cond c y x) ys) (x ∷ y ∷ ys)
  in_step x y ys true i = inr i
  in_step x y ys false (inl e) = inl e
  in_step x y ys false (inr i) = inr (inr i)

  -- one list after the other
  pub best_of-++ : (x : ℕ) (l k : List ℕ) → best_of b x (l ++ k) ≡ best_of b (best_of b x l) k
  best_of-++ x [] k = refl
  best_of-++ x (y ∷ ys) k = best_of-++ (cond (b y x) y x) ys k

  -- it is one of them
  pub best_of_in : (x : ℕ) (l : List ℕ) → Among (best_of b x l) (x ∷ l)
  best_of_in x [] = inl refl
  best_of_in x (y ∷ ys) = in_step x y ys (b y x) (best_of_in (cond (b y x) y x) ys)

  -- ── a strict order of what has P ──

  module _ (P : ℕ → Type 0) (irr : (x : ℕ) → P x → b x x ≡ false) (trans : Transitive b P) where
    both : (x y : ℕ) (c : Bool) → P x → P y → P (cond c y x)
    both x y true px py = py
    both x y false px py = px

    stays_step : (z x y : ℕ) (c : Bool) → b y x ≡ c → P z → P x → P y → b z x ≡ false → b z (cond c y x) ≡ false
    stays_step z x y true e pz px py f = not-true (b z y) (λ g. clash (trans z y x pz py px g e) f)
    stays_step z x y false e pz px py f = f

    -- what is not better than the first is not better than the best
    stays : (z x : ℕ) (l : List ℕ) → P z → P x → Every P l → b z x ≡ false → b z (best_of b x l) ≡ false
    stays z x [] pz px h f = f
    stays z x (y ∷ ys) pz px h f = stays z (cond (b y x) y x) ys pz (both x y (b y x) px h.0) h.1 (stays_step z x y (b y x) refl pz px h.0 f)

    next_step : (x y : ℕ) (c : Bool) → b y x ≡ c → P y → b y (cond c y x) ≡ false
    next_step x y true e py = irr y py
    next_step x y false e py = e

    -- none of them is better
    pub best_of-top : (x : ℕ) (l : List ℕ) → P x → Every P l → (z : ℕ) → Among z (x ∷ l) → b z (best_of b x l) ≡ false
    best_of-top x l px h z (inl e) = subst (λ (w : ℕ). b w (best_of b x l) ≡ false) (sym e) (stays x x l px px h (irr x px))
    best_of-top x [] px h z (inr i) = absurd i
    best_of-top x (y ∷ ys) px h z (inr (inl e)) =
        subst (λ (w : ℕ). b w (best_of b x (y ∷ ys)) ≡ false) (sym e)
        (stays y (cond (b y x) y x) ys h.0 (both x y (b y x) px h.0) h.1 (next_step x y (b y x) refl h.0))
    best_of-top x (y ∷ ys) px h z (inr (inr i)) = best_of-top (cond (b y x) y x) ys (both x y (b y x) px h.0) h.1 z (inr i)

    -- what beats all others is the best
    pub best_of_is : (x : ℕ) (l : List ℕ) → P x → Every P l → (r : ℕ) → Among r (x ∷ l) → ((z : ℕ) → Among z (x ∷ l) → (z ≡ r → ⊥) → b r z ≡ true) → best_of b x l ≡ r
    best_of_is x l px h r i beats =
        elim (ℕ_discrete (best_of b x l) r) [
          | yes e ↦ e
          | no e ↦ absurd (clash (beats (best_of b x l) (best_of_in x l) e) (best_of-top x l px h r i))
        ]

-- ── the least number of a list ──

pub ltb-irr : (x : ℕ) → ltb x x ≡ false
ltb-irr x = le-ltb x x (omega arith)

pub ltb-trans : (x y z : ℕ) → ltb x y ≡ true → ltb y z ≡ true → ltb x z ≡ true
ltb-trans x y z e f = lt-ltb x z (omega (arith, ltb-true x y e, ltb-true y z f))

pub least_of_in : (x : ℕ) (l : List ℕ) → Among (best_of ltb x l) (x ∷ l)
least_of_in = best_of_in ltb

pub least_of-le : (x : ℕ) (l : List ℕ) (z : ℕ) → Among z (x ∷ l) → best_of ltb x l ≤ z
least_of-le x l z i =
    ltb-false z (best_of ltb x l)
    (best_of-top ltb (λ y. Unit {0}) (λ y u. ltb-irr y) (λ y z w u v t. ltb-trans y z w) x l tt (in_every (λ y. Unit {0}) l (λ y j. tt)) z i)
