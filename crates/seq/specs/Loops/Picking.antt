-- The best of the numbers below n that have p, or n:    for i in 0..n { if p(i) && (r == n || b(i, r)) { r = i } }
-- Before turn i it is the best of those below i. Assumes nothing.
use Rattle.std.specs.Prelude.{◌≡◌, refl, ◌≤◌, ◌<◌, ◌+◌}
use Rattle.std.proofs.Common.{sym, ◌∙◌, ap, arith}
use Rattle.seq.specs.Seq.{Bool, true, false, none, some, ℕ, suc, best}
use Rattle.seq.specs.Pick.{pick, better, Away, turn_yes, turn_no, pick_none, pick_some, pick_below}

-- r is the best before turn i
pub record Picking (p : ℕ → Bool) (b : ℕ → ℕ → Bool) (n r i : ℕ) : Type 0 where
  pub within : i ≤ n
  pub is : r ≡ pick p b n i

away : (p : ℕ → Bool) (b : ℕ → ℕ → Bool) (n i : ℕ) → i ≤ n → Away p b n i
away p b n i l k h q = omega (arith, h.below)

module _ {p : ℕ → Bool} {b : ℕ → ℕ → Bool} {n : ℕ} where
  pub pick_starts : Picking p b n n 0
  pick_starts = record { within = omega arith; is = refl }

  module _ {r i : ℕ} (s : Picking p b n r i) where
    pub pick-most : r ≤ n
    pick-most = omega (arith, s.is, pick_below p b n i (suc n) (omega arith) (omega (arith, s.within)))

    pub pick_takes : {u : ℕ} → i < n → p i ≡ true → u ≡ better b n i r → Picking p b n u (i + 1)
    pick_takes {u} l e f = record { within = omega arith; is = turn_yes p b n i r u (away p b n i s.within) e s.is f }

    pub pick-skips : {u : ℕ} → i < n → p i ≡ false → u ≡ r → Picking p b n u (i + 1)
    pick-skips {u} l e f = record { within = omega arith; is = turn_no p b n i r u (away p b n i s.within) e s.is f }

    pub pick_ends : n ≤ i → r ≡ pick p b n n
    pick_ends l = let e : i ≡ n = omega (arith, s.within) in s.is ∙ ap (pick p b n) e

    -- ── whether there is one ──

    pub pick-lacks : n ≤ i → r ≡ n → none ≡ best p b n
    pick-lacks l e = sym (pick_none p b n n (away p b n n (omega arith)) (sym (pick_ends l) ∙ e))

    pub pick_has : n ≤ i → (r ≡ n → ⊥) → some r ≡ best p b n
    pick_has l f = ap some (pick_ends l) ∙ sym (pick_some p b n n (λ e. f (pick_ends l ∙ e)))
