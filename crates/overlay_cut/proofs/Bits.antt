-- A number and a number in a cell are equal exactly if their bits are. Assumes nothing.
use mathlib.Core.Path.{◌≡◌}
use Prim.Native.Nat.{ℕ, ◌<◌, ◌≤◌, ◌^◌}
use lib.Dec.{T, eqb, ltb}
use lib.IntN.{ℤ, nat_abs}
use lib.Signed.{mag}
use mir.Syntax.{w64}
use mir.Val.{SFits, of_z, hbits}
use Rattle.exact.specs.Mach.{eq_z, sfits-abs, trn_sfits, eq_yes, eq_no, eqb_is}

-- a number in a cell fits its width
abbrev pub Small : ℤ → Type 0
Small z = mag z < 2 ^ hbits w64

module _ (a b : ℤ) (B : ℕ) (f : nat_abs a ≤ B) (small : T (ltb B (2 ^ hbits w64))) (g : Small b) where
  one : SFits w64 a
  one = sfits-abs B f small

  other : SFits w64 b
  other = record { sfits = g }

  pub bits_yes : of_z w64 a ≡ of_z w64 b → a ≡ b
  bits_yes e = eq_yes w64 e (trn_sfits {x = a} one) (trn_sfits {x = b} other) tt

  pub bits_no : (of_z w64 a ≡ of_z w64 b → ⊥) → a ≡ b → ⊥
  bits_no e = eq_no w64 e (trn_sfits {x = a} one) (trn_sfits {x = b} other) tt

  pub bits-test : eqb (of_z w64 a) (of_z w64 b) ≡ eq_z a b
  bits-test = eqb_is w64 (trn_sfits {x = a} one) (trn_sfits {x = b} other) tt
