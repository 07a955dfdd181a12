-- Where a number first stands in a list, and whether it stands there: `position` is the search over the list's cells, and `elem` is membership.
-- Assumes nothing.
use Rattle.std.specs.Prelude.{◌≡◌, refl, ◌<◌, ◌≤◌, ◌∷◌}
use Rattle.std.proofs.Common.{sym, ◌∙◌, inl, inr, suc-le-suc, zero-le, not-suc-le-zero, le_of_suc-le-suc, ltb-true, lt-ltb, eqb-true}
use Rattle.std.proofs.lemmas.Bool.{eqb-false}
use Rattle.seq.specs.Seq.{Bool, true, false, cond, List, [], Option, none, some, ℕ, zero, suc, eqb, length, get_or, position, elem, among}
use Rattle.seq.specs.Terms.{Among}
use Rattle.seq.specs.Tests.{clash}
use Rattle.seq.specs.Members.{at_among}

-- ── a search over the cells ──

module _ (x : ℕ) where
  le_step : (c : Bool) (r n : ℕ) → r ≤ n → cond c 0 (suc r) ≤ suc n
  le_step true r n h = zero-le
  le_step false r n h = suc-le-suc h

  pub position-le : (ys : List ℕ) → position x ys ≤ length ys
  position-le [] = zero-le
  position-le (y ∷ ys) = le_step (eqb x y) (position x ys) (length ys) (position-le ys)

  at_step : (y d : ℕ) (ys : List ℕ) (c : Bool) → eqb x y ≡ c → (position x ys < length ys → get_or ys (position x ys) d ≡ x) → cond c 0 (suc (position x ys)) < suc (length ys)
      → get_or (y ∷ ys) (cond c 0 (suc (position x ys))) d ≡ x
  at_step y d ys true e ih h = sym (eqb-true x y e)
  at_step y d ys false e ih h = ih (le_of_suc-le-suc h)

  -- it stands there
  pub position_at : (ys : List ℕ) (d : ℕ) → position x ys < length ys → get_or ys (position x ys) d ≡ x
  position_at [] d h = absurd (not-suc-le-zero h)
  position_at (y ∷ ys) d h = at_step y d ys (eqb x y) refl (position_at ys d) h

  first_step : (y d : ℕ) (ys : List ℕ) (c : Bool) → eqb x y ≡ c → ((k : ℕ) → k < position x ys → get_or ys k d ≡ x → ⊥) → (k : ℕ) → k < cond c 0 (suc (position x ys)) → get_or (y ∷ ys) k d ≡ x → ⊥
  first_step y d ys true e ih k h q = not-suc-le-zero h
  first_step y d ys false e ih zero h q = eqb-false x y e (sym q)
  first_step y d ys false e ih (suc k) h q = ih k (le_of_suc-le-suc h) q

  -- and nowhere before
  pub position_first : (ys : List ℕ) (d k : ℕ) → k < position x ys → get_or ys k d ≡ x → ⊥
  position_first [] d k h q = not-suc-le-zero h
  position_first (y ∷ ys) d k h q = first_step y d ys (eqb x y) refl (λ j. position_first ys d j) k h q

  -- ── members ──

  pub elem-among : (ys : List ℕ) → elem x ys ≡ true → Among x ys
  elem-among ys e = let h : position x ys < length ys = ltb-true (position x ys) (length ys) e in rw (position_at ys 0 h) at (at_among ys (position x ys) 0 h)

  below_step : (y : ℕ) (ys : List ℕ) (c : Bool) → eqb x y ≡ c → (Among x ys → position x ys < length ys) → Among x (y ∷ ys) → cond c 0 (suc (position x ys)) < suc (length ys)
  below_step y ys true e ih i = suc-le-suc zero-le
  below_step y ys false e ih (inl q) = absurd (eqb-false x y e q)
  below_step y ys false e ih (inr i) = suc-le-suc (ih i)

  pub among-position : (ys : List ℕ) → Among x ys → position x ys < length ys
  among-position [] i = absurd i
  among-position (y ∷ ys) i = below_step y ys (eqb x y) refl (among-position ys) i

  pub among-elem : (ys : List ℕ) → Among x ys → elem x ys ≡ true
  among-elem ys i = lt-ltb (position x ys) (length ys) (among-position ys i)

  pub not_elem : (ys : List ℕ) → elem x ys ≡ false → Among x ys → ⊥
  not_elem ys e i = clash (among-elem ys i) e

-- what is found is one of the list
pub among_some : (o : Option ℕ) (ys : List ℕ) → among o ys ≡ true → (x : ℕ) × (o ≡ some x) × Among x ys
among_some none ys e = absurd (clash e refl)
among_some (some x) ys e = (x, refl, elem-among x ys e)
