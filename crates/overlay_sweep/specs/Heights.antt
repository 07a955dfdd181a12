-- Two points whose heights are middling: the two products that tell which is higher fit, and where they differ they tell which point comes first. Assumes nothing.
use Rattle.std.specs.Prelude.{◌≡◌, ◌*ℤ◌}
use Rattle.std.proofs.Common.{sym, ◌∙◌, SFits}
use Rattle.std.specs.Int.Signed.{lt_z}
use Rattle.std.specs.Int.{w64}
use Rattle.seq.specs.Seq.{true, false}
use Rattle.exact.specs.Tests.{lt-sign, or_r, and_both}
use Rattle.paper.specs.Plane.{Pt, before}
use Rattle.plane.specs.Bounds.{Near, Coordinate, small, middling}
use Rattle.plane.proofs.Machine.{back}
use Rattle.plane.proofs.Fractions.{Short, same_middling, short_of, first_fits, second_fits, short_test}
use Rattle.overlay_sweep.specs.First.{first_below, first_above}

-- a point's height
abbrev pub height : (p : Pt) → Near p → Coordinate p.Y p.D
height p N = record { positive = N.positive; n_is = N.Y-is; d_is = N.D-is }

module _ (q p : Pt) (Q : Near q) (P : Near p) (e : middling q.Y q.D ≡ true) (f : middling p.Y p.D ≡ true) where
  short : Short q.Y q.D p.Y p.D
  short =
      short_of q.Y q.D p.Y p.D (height q Q) (height p P)
      (or_r (small (back p.Y) (back p.D)) (and_both (same_middling q.Y q.D (height q Q) ∙ e) (same_middling p.Y p.D (height p P) ∙ f)))

  pub first_product : SFits w64 (back q.Y *ℤ back p.D)
  first_product = first_fits q.Y q.D p.Y p.D (height q Q) (height p P) short

  pub second-product : SFits w64 (back p.Y *ℤ back q.D)
  second-product = second_fits q.Y q.D p.Y p.D (height q Q) (height p P) short

  -- the test of the machine
  less : lt_z (back (back q.Y *ℤ back p.D)) (back (back p.Y *ℤ back q.D)) ≡ lt_z (q.Y *ℤ p.D) (p.Y *ℤ q.D)
  less = short_test q.Y q.D p.Y p.D (height q Q) (height p P) short ∙ sym (lt-sign (q.Y *ℤ p.D) (p.Y *ℤ q.D))

  pub lower_first_lem : lt_z (back (back q.Y *ℤ back p.D)) (back (back p.Y *ℤ back q.D)) ≡ true → true ≡ before q p
  lower_first_lem h = first_below (q.X *ℤ p.D) (q.Y *ℤ p.D) (p.X *ℤ q.D) (p.Y *ℤ q.D) (sym less ∙ h)

-- the other way round
module _ (q p : Pt) (Q : Near q) (P : Near p) (e : middling q.Y q.D ≡ true) (f : middling p.Y p.D ≡ true) where
  pub higher-later : lt_z (back (back p.Y *ℤ back q.D)) (back (back q.Y *ℤ back p.D)) ≡ true → false ≡ before q p
  higher-later h = first_above (q.X *ℤ p.D) (q.Y *ℤ p.D) (p.X *ℤ q.D) (p.Y *ℤ q.D) (sym (less p q P Q f e) ∙ h)
