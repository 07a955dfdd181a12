-- What the machine reads of a row of a table of numbers is that row, of 64 bits or of 16, which it widens; what it narrows to 16 bits; and a number's negation, which it
-- reckons from 0. Assumes nothing.
use Rattle.std.specs.Prelude.{◌*◌, ◌^◌, ◌-ℤ◌}
use mathlib.Core.Path.{◌≡◌, sym, ◌∙◌, ap}
use mathlib.Core.List.{[], ◌∷◌}
use Prim.Native.Nat.{◌<◌}
use native.Mathlib.Nat.{add-zero}
use mir.Syntax.{w16, w64}
use mir.Val.{SFits, hbits, to_z, of_z}
use mir.Facts.{sfits_widen, sfits_to_z, Fits-of_z}
use lib.Signed.{mag}
use mir.ValLaws.{to_z-of_z}
use Rattle.seq.specs.Seq.{List, ℕ, get_or, ℤ, pos, neg_ℤ, cell}
use Rattle.exact.specs.Solve.{ring, reify}
use Rattle.plane.proofs.Machine.{back}

-- a cell, and the first of a row
pub read : (t : List ℤ) (i : ℕ) → mag (get_or t i (pos 0)) < 2 ^ hbits w64 → back (get_or t i (pos 0)) ≡ get_or t i (pos 0)
read t i h = to_z-of_z w64 (get_or t i (pos 0)) (record { sfits = h })

pub read_first : (w : ℕ) (t : List ℤ) (i : ℕ) → mag (get_or t (w * i) (pos 0)) < 2 ^ hbits w64 → back (get_or t (w * i) (pos 0)) ≡ cell (pos 0) w t i 0
read_first w t i h = read t (w * i) h ∙ ap (λ (k : ℕ). get_or t k (pos 0)) (sym (add-zero (w * i)))

-- a cell of 16 bits as a number of 64
module _ (t : List ℤ) (i : ℕ) (h : mag (get_or t i (pos 0)) < 2 ^ hbits w16) where
  pub wide : SFits w64 (to_z w16 (of_z w16 (get_or t i (pos 0))))
  wide = sfits_widen {w = w16} tt (sfits_to_z (Fits-of_z {z = get_or t i (pos 0)} (record { sfits = h })))

  pub widened : back (to_z w16 (of_z w16 (get_or t i (pos 0)))) ≡ get_or t i (pos 0)
  widened = to_z-of_z w64 _ wide ∙ to_z-of_z w16 (get_or t i (pos 0)) (record { sfits = h })

pub widened_first : (w : ℕ) (t : List ℤ) (i : ℕ) → mag (get_or t (w * i) (pos 0)) < 2 ^ hbits w16 → back (to_z w16 (of_z w16 (get_or t (w * i) (pos 0)))) ≡ cell (pos 0) w t i 0
widened_first w t i h = widened t (w * i) h ∙ ap (λ (k : ℕ). get_or t k (pos 0)) (sym (add-zero (w * i)))

pub minus : (z : ℤ) → pos 0 -ℤ z ≡ neg_ℤ z
minus z = ring (z ∷ []) (search reify depth 20) tt
