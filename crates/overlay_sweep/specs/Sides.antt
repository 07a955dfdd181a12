-- The sides of a point against the edges whose numbers stand in a table. Assumes nothing.
use Rattle.std.specs.Prelude.{◌≡◌, refl, pos}
use Rattle.std.proofs.Common.{sym, ◌∙◌}
use Rattle.std.proofs.Math.IntN.{+ℤ_idr}
use Rattle.std.specs.Int.Signed.{lt_z}
use Rattle.exact.specs.Tests.{lt-sign}
use Rattle.seq.specs.Seq.{Bool, true, false, not, List, ℕ, get_or, ℤ}
use Rattle.seq.specs.Tests.{clash, not-true}
use Rattle.exact.specs.Sign.{sgn, is_neg, is_zer, is_plus}
use Rattle.paper.specs.Plane.{Pt, cross, whole, before, same, the_left_by}
use Rattle.laws_plane.specs.Points.{neither, same_neither, same_sym}
use Rattle.graph.specs.Flat.{carrier_at}

-- the edge in cell i has p on its right
abbrev pub right_at : List ℤ → List ℕ → Pt → ℕ → Bool
right_at cs xs p i = is_neg (sgn (the_left_by (carrier_at cs (get_or xs i 0)) p))

-- it goes through p
abbrev pub on_at : List ℤ → List ℕ → Pt → ℕ → Bool
on_at cs xs p i = is_zer (sgn (the_left_by (carrier_at cs (get_or xs i 0)) p))

-- edge k against edge j: a greater upward angle; an earlier lower end
abbrev pub steeper_at : List ℤ → ℕ → ℕ → Bool
steeper_at cs k j = is_plus (sgn (cross (carrier_at cs j).up (carrier_at cs k).up))

abbrev pub sooner_at : List ℤ → ℕ → ℕ → Bool
sooner_at cs k j = before (whole (carrier_at cs k).foot) (whole (carrier_at cs j).foot)

-- as the code tests it
pub neg-test : (z : ℤ) → lt_z z (pos 0) ≡ is_neg (sgn z)
neg-test z = lt-sign z (pos 0) ∙ (λ i. is_neg (sgn (+ℤ_idr z i)))

-- neither comes before the other
module _ (q p : Pt) where
  pub same_first : before q p ≡ true → false ≡ same q p
  same_first h = sym (not-true (same q p) (λ s. clash h (same_neither q p s)))

  pub same_second : before q p ≡ false → not (before p q) ≡ same q p
  same_second h = go (before p q) refl
    where
      go : (b : Bool) → before p q ≡ b → not b ≡ same q p
      go true e = sym (not-true (same q p) (λ s. clash e (same_neither p q (same_sym q p s))))
      go false e = sym (neither q p h e)
