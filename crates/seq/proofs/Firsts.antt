-- Of Firsts of specs/, what rests on its definitions.
use Rattle.std.specs.Prelude.{◌≡◌, refl, ◌≤◌, ◌<◌, ◌+◌}
use Rattle.std.proofs.Common.{sym, ◌∙◌, ap, zero-add, arith}
use Rattle.std.proofs.Math.Decide.{ℕ_discrete}
use Rattle.seq.specs.Seq.{Bool, true, false, cond, List, ℕ, zero, suc, ltb, eqb, length, get_or, least, least_from, firsts}
use Rattle.seq.proofs.Least.{least_by}
use Rattle.seq.specs.Firsts.{firsts_at}

-- ── the least from i on ──

module _ (p : ℕ → Bool) where
  le_step : (c : Bool) (i m r : ℕ) → r ≤ suc i + m → cond c i r ≤ i + suc m
  le_step true i m r h = omega arith
  le_step false i m r h = omega arith

  from_le : (i m : ℕ) → least_from p i m ≤ i + m
  from_le i zero = omega arith
  from_le i (suc m) = le_step (p i) i m (least_from p (suc i) m) (from_le (suc i) m)

  none_step : (c : Bool) (i r : ℕ) → p i ≡ c → ((k : ℕ) → suc i ≤ k → k < r → p k ≡ false) → (k : ℕ) → i ≤ k → k < cond c i r → p k ≡ false
  none_step true i r e h k l m = absurd (omega arith)
  none_step false i r e h k l m = elim (ℕ_discrete k i) [ yes s ↦ ap p s ∙ e | no s ↦ h k (omega arith) m ]

  from_min : (i m k : ℕ) → i ≤ k → k < least_from p i m → p k ≡ false
  from_min i zero k l h = absurd (omega arith)
  from_min i (suc m) k l h = none_step (p i) i (least_from p (suc i) m) refl (from_min (suc i) m) k l h

  holds-step : (c : Bool) (i m r : ℕ) → p i ≡ c → (r < suc i + m → p r ≡ true) → cond c i r < i + suc m → p (cond c i r) ≡ true
  holds-step true i m r e h l = e
  holds-step false i m r e h l = h (omega arith)

  from_holds : (i m : ℕ) → least_from p i m < i + m → p (least_from p i m) ≡ true
  from_holds i zero h = absurd (omega arith)
  from_holds i (suc m) h = holds-step (p i) i m (least_from p (suc i) m) refl (from_holds (suc i) m) h

  -- from 0 on it is the search
  pub from_zero : (n : ℕ) → least_from p 0 n ≡ least p n
  from_zero n =
      let e : 0 + n ≡ n = zero-add n in
      sym (least_by p n (least_from p 0 n) (rw e at (from_le 0 n)) (λ k h. from_min 0 n k (omega arith) h) (λ h. from_holds 0 n (omega arith)))

-- ── the loop ──

module _ (key : ℕ → ℕ) where
  -- all of them: in cell v the least number of key v
  pub firsts_all : (n v : ℕ) (d : List ℕ) → v < length d
      → get_or (firsts key 0 n d) v 0 ≡ (let h = least (λ k. eqb (key k) v) n in cond (ltb h n) h (get_or d v 0))
  firsts_all n v d h = firsts_at key 0 n v d h ∙ rw (from_zero (λ k. eqb (key k) v) n, zero-add n)
