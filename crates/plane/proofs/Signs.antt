-- Signs by the tests that the code makes: whether a number, or a pair as `lex_s` picks, is above 0; whether a number is 0.
-- Assumes nothing.
use mathlib.Core.Path.{◌≡◌, refl, sym, ◌∙◌}
use mathlib.Core.Bool.{true, false}
use Prim.Native.Nat.{zero, suc}
use lib.IntN.{ℤ, pos, negsuc, +ℤ_idr}
use lib.Signed.{lt_z}
use Rattle.exact.specs.Sign.{sgn, is_zer, is_plus, pick, lex_s}
use Rattle.exact.specs.Tests.{gt-sign}

-- ---- above 0
pub plus-test : (z : ℤ) → lt_z (pos 0) z ≡ is_plus (sgn z)
plus-test z = gt-sign z (pos 0) ∙ (λ i. is_plus (sgn (+ℤ_idr z i)))

-- of a pair
pub plus-level : (y x : ℤ) → y ≡ pos 0 → is_plus (sgn x) ≡ is_plus (lex_s y x)
plus-level y x e = λ i. is_plus (pick (sgn (sym e i)) (sgn x))

pub plus_not : (y x : ℤ) → (y ≡ pos 0 → ⊥) → is_plus (sgn y) ≡ is_plus (lex_s y x)
plus_not (pos zero) x f = absurd (f refl)
plus_not (pos (suc n)) x f = refl
plus_not (negsuc n) x f = refl

-- ---- 0
pub zer_yes : (z : ℤ) → z ≡ pos 0 → is_zer (sgn z) ≡ true
zer_yes z e = λ i. is_zer (sgn (e i))

pub zer_no : (z : ℤ) → (z ≡ pos 0 → ⊥) → is_zer (sgn z) ≡ false
zer_no (pos zero) f = absurd (f refl)
zer_no (pos (suc n)) f = refl
zer_no (negsuc n) f = refl
