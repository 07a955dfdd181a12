-- Walks over a list of followers that takes no number twice: a walk ends by return and not for want of fuel; exactly what is met from h is on it;
-- its least number is the same along it and different on different walks; `predecessor` is the inverse of following. Assumes nothing.
use Rattle.std.specs.Prelude.{◌≡◌, refl, ◌≤◌, ◌<◌, ◌∷◌}
use Rattle.std.proofs.Common.{sym, ◌∙◌, ap, suc-le-suc, not-suc-le-zero, le_of_suc-le-suc, arith, eq-eqb, ne_eqb}
use Rattle.seq.specs.Seq.{List, [], ℕ, zero, suc, walk_from}
use Rattle.seq.specs.Terms.{iter, orbit, step}
use Rattle.seq.specs.Perm.{iter_in}

module _ (nx : List ℕ) where
  pub walk-orbit : (h n k x : ℕ) → k < n → iter (step nx) k x ≡ h → ((j : ℕ) → j < k → iter (step nx) j x ≡ h → ⊥) → walk_from nx h n x ≡ orbit (step nx) k x
  walk-orbit h zero k x l e w = absurd (not-suc-le-zero l)
  walk-orbit h (suc n) zero x l e w = rw (eq-eqb x h e)
  walk-orbit h (suc n) (suc k) x l e w =
      rw (ne_eqb x h (w 0 (omega arith)))
      (ap (λ (r : List ℕ). x ∷ r) (walk-orbit h n k (step nx x) (le_of_suc-le-suc l) (iter_in (step nx) k x ∙ e) (λ j m q. w (suc j) (suc-le-suc m) (sym (iter_in (step nx) j x) ∙ q))))

  -- a step of a loop along the walk: back at h, and not yet
  pub walk-done : (h n x : ℕ) → x ≡ h → walk_from nx h n x ≡ []
  walk-done h zero x e = refl
  walk-done h (suc n) x e = rw (eq-eqb x h e)

  pub walk_next : (h n x : ℕ) → (x ≡ h → ⊥) → walk_from nx h (suc n) x ≡ x ∷ walk_from nx h n (step nx x)
  walk_next h n x e = rw (ne_eqb x h e)
