-- Whether an earlier one was found, in a loop with no way out:    for j in 0..n { found = found | p(j) }                                              (`Seeing`)
-- and the ends of what is kept set to 0:                          for k in 0..m { if p(k) { t[f(k)] = 0; t[g(k)] = 0 } }                              (`Marking`)
-- Before turn k a cell is 0 if its number is an end of one below k that has p, and otherwise as it was. Assumes nothing.
use Rattle.std.specs.Prelude.{◌&&◌, ◌||◌, ◌+◌}
use mathlib.Core.Path.{◌≡◌, refl, sym, ◌∙◌, ap}
use Prim.Native.Nat.{◌≤◌, ◌<◌}
use native.Mathlib.Decide.{ℕ_discrete}
use native.Mathlib.Numerals.{add-one}
use native.Mathlib.Omega.{arith}
use borrow.Author.Tests.{eq-eqb, ne_eqb, lt-ltb, ltb-true, le-ltb}
use lib.ListN.{set, length-set}
use lib.Seq.{get_or-set_same, get_or-set_other}
use Rattle.seq.specs.Seq.{Bool, true, false, cond, List, ℕ, suc, ltb, eqb, length, get_or, least, the_some_below}
use Rattle.seq.specs.Filled.{Holds}

-- one more
some_step : (r n : ℕ) (b c : Bool) → ltb r n ≡ b → ltb (cond b r (cond c n (suc n))) (suc n) ≡ (b || c)
some_step r n true c e = lt-ltb r (suc n) (omega (arith, ltb-true r n e))
some_step r n false true e = lt-ltb n (suc n) (omega arith)
some_step r n false false e = le-ltb (suc n) (suc n) (omega arith)

pub some_one_more : (p : ℕ → Bool) (n : ℕ) → the_some_below p (n + 1) ≡ (the_some_below p n || p n)
some_one_more p n = ap (the_some_below p) (add-one n) ∙ some_step (least p n) n (ltb (least p n) n) (p n) refl

-- ── whether there is one ──

pub record Seeing (p : ℕ → Bool) (n : ℕ) (found : Bool) (j : ℕ) : Type 0 where
  pub within : j ≤ n
  pub is : found ≡ the_some_below p j

module _ {p : ℕ → Bool} {n : ℕ} where
  pub see_starts : Seeing p n false 0
  see_starts = record { within = omega arith; is = refl }

  module _ {found : Bool} {j : ℕ} (r : Seeing p n found j) where
    pub see_turns : {b : Bool} → j < n → b ≡ p j → Seeing p n (found || b) (j + 1)
    see_turns {b} l e = record { within = omega arith; is = (λ i. r.is i || e i) ∙ sym (some_one_more p j) }

    pub see_ends : n ≤ j → found ≡ the_some_below p n
    see_ends l = let e : j ≡ n = omega (arith, r.within) in r.is ∙ ap (the_some_below p) e

-- ── ends ──

zero_at : (t : List ℕ) (x v : ℕ) → v < length t → get_or (set t x 0) v 0 ≡ cond (eqb v x) 0 (get_or t v 0)
zero_at t x v l =
    elim (ℕ_discrete v x) [
      | yes q ↦ ap (λ (y : ℕ). get_or (set t y 0) v 0) (sym q) ∙ get_or-set_same t v 0 0 l ∙ sym (ap (λ (b : Bool). cond b 0 (get_or t v 0)) (eq-eqb v x q))
      | no q ↦ get_or-set_other t x v 0 0 q ∙ sym (ap (λ (b : Bool). cond b 0 (get_or t v 0)) (ne_eqb v x q))
    ]

both : (s c a b : Bool) (d : ℕ) → c ≡ true → cond b 0 (cond a 0 (cond s 0 d)) ≡ cond (s || (c && (a || b))) 0 d
both true c true true d e = refl
both true c true false d e = refl
both true c false true d e = refl
both true c false false d e = refl
both false c true true d e = rw e
both false c true false d e = rw e
both false c false true d e = rw e
both false c false false d e = rw e

neither : (s c x : Bool) (d : ℕ) → c ≡ false → cond s 0 d ≡ cond (s || (c && x)) 0 d
neither true c x d e = refl
neither false c x d e = rw e

-- t is what the loop has made of d before turn k
pub record Marking (p : ℕ → Bool) (f g : ℕ → ℕ) (m : ℕ) (d t : List ℕ) (k : ℕ) : Type 0 where
  pub within : k ≤ m
  pub kept : length t ≡ length d
  pub at : (v : ℕ) → v < length d → get_or t v 0 ≡ cond (the_some_below (λ j. p j && (eqb v (f j) || eqb v (g j))) k) 0 (get_or d v 0)

abbrev ending : (ℕ → Bool) → (ℕ → ℕ) → (ℕ → ℕ) → ℕ → ℕ → Bool
ending p f g v j = p j && (eqb v (f j) || eqb v (g j))

module _ {p : ℕ → Bool} {f g : ℕ → ℕ} {m : ℕ} {d : List ℕ} where
  pub mark_starts : Marking p f g m d d 0
  mark_starts = record { within = omega arith; kept = refl; at = λ v l. refl }

  module _ {t : List ℕ} {k : ℕ} (r : Marking p f g m d t k) where
    pub mark-takes : {u : List ℕ} → k < m → p k ≡ true → u ≡ set (set t (f k) 0) (g k) 0 → Marking p f g m d u (k + 1)
    mark-takes {u} l e q = record {
      within = omega arith;
      kept = ap length q ∙ length-set (set t (f k) 0) (g k) 0 ∙ length-set t (f k) 0 ∙ r.kept;
      at = λ v h.
          ap (λ (x : List ℕ). get_or x v 0) q
          ∙ zero_at (set t (f k) 0) (g k) v (omega (arith, length-set t (f k) 0, r.kept))
          ∙ ap (cond (eqb v (g k)) 0) (zero_at t (f k) v (omega (arith, r.kept)) ∙ ap (cond (eqb v (f k)) 0) (r.at v h))
          ∙ both (the_some_below (ending p f g v) k) (p k) (eqb v (f k)) (eqb v (g k)) (get_or d v 0) e
          ∙ ap (λ (b : Bool). cond b 0 (get_or d v 0)) (sym (some_one_more (ending p f g v) k));
    }

    pub mark-skips : {u : List ℕ} → k < m → p k ≡ false → u ≡ t → Marking p f g m d u (k + 1)
    mark-skips {u} l e q = record {
      within = omega arith;
      kept = ap length q ∙ r.kept;
      at = λ v h.
          ap (λ (x : List ℕ). get_or x v 0) q ∙ r.at v h
          ∙ neither (the_some_below (ending p f g v) k) (p k) (eqb v (f k) || eqb v (g k)) (get_or d v 0) e
          ∙ ap (λ (b : Bool). cond b 0 (get_or d v 0)) (sym (some_one_more (ending p f g v) k));
    }

    pub mark_ends : m ≤ k → Holds (λ v. cond (the_some_below (λ j. p j && (eqb v (f j) || eqb v (g j))) m) 0 (get_or d v 0)) t (length d)
    mark_ends l = let q : k ≡ m = omega (arith, r.within) in
        record { long = omega (arith, r.kept); at = λ v h. r.at v h ∙ ap (λ (j : ℕ). cond (the_some_below (ending p f g v) j) 0 (get_or d v 0)) q }
