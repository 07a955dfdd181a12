-- A loop along the walk of h that looks for a half-edge with p, turn by turn: what it still has to look at has none exactly if the whole walk after h has none.
-- Assumes nothing.
use Rattle.std.specs.Prelude.{◌≡◌, refl, ◌≤◌, ◌<◌, ◌&&◌, ◌-◌}
use Rattle.std.proofs.Common.{sym, ◌∙◌, ap, arith}
use Rattle.seq.specs.Seq.{Bool, true, false, not, List, ℕ, suc, get_or, walk_from}
use Rattle.seq.specs.Walks.{walk-done, walk_next}
use Rattle.map_check.specs.Labels.{the_none_of}

-- the loop is at x, one of m half-edges, with so many steps left
pub record Walking (p : ℕ → Bool) (nx : List ℕ) (h m x left : ℕ) : Type 0 where
  pub below : x < m
  pub rest : the_none_of p (walk_from nx h left x) ≡ the_none_of p (walk_from nx h m (get_or nx h 0))

module _ {p : ℕ → Bool} {nx : List ℕ} {h m : ℕ} where
  pub walk_starts : get_or nx h 0 < m → Walking p nx h m (get_or nx h 0) m
  walk_starts l = record { below = l; rest = refl }

  module _ {x left : ℕ} (r : Walking p nx h m x left) where
    -- x is not h, and there is a step left
    on : 0 < left → (x ≡ h → ⊥) → (c : Bool) → p x ≡ c → (not c && the_none_of p (walk_from nx h (left - 1) (get_or nx x 0))) ≡ the_none_of p (walk_from nx h m (get_or nx h 0))
    on l f c e =
        let s : left ≡ suc (left - 1) = omega arith in
        ap (λ (b : Bool). not b && the_none_of p (walk_from nx h (left - 1) (get_or nx x 0))) (sym e) ∙ ap (the_none_of p) (sym (walk_next nx h (left - 1) x f))
        ∙ ap (λ (k : ℕ). the_none_of p (walk_from nx h k x)) (sym s) ∙ r.rest

    pub walk_turns : 0 < left → (x ≡ h → ⊥) → p x ≡ false → get_or nx x 0 < m → Walking p nx h m (get_or nx x 0) (left - 1)
    walk_turns l f e b = record { below = b; rest = on l f false e }

    pub walk-finds : 0 < left → (x ≡ h → ⊥) → p x ≡ true → false ≡ the_none_of p (walk_from nx h m (get_or nx h 0))
    walk-finds l f e = on l f true e

    -- back at h, or with no step left
    pub walk_back : x ≡ h → true ≡ the_none_of p (walk_from nx h m (get_or nx h 0))
    walk_back e = ap (the_none_of p) (sym (walk-done nx h left x e)) ∙ r.rest

    pub walk_ends : left ≤ 0 → true ≡ the_none_of p (walk_from nx h m (get_or nx h 0))
    walk_ends l = let z : 0 ≡ left = omega arith in ap (λ (k : ℕ). the_none_of p (walk_from nx h k x)) z ∙ r.rest
