-- Boolean tests as facts and back: those of `exact` and of the library, passed on; that two tests which imply one another are one; and tests of equality.
-- Assumes nothing.
use Rattle.std.specs.Prelude.{◌≡◌, refl}
use Rattle.std.proofs.Common.{sym, eqb-true, eq-eqb}
pub use Rattle.std.proofs.lemmas.Bool.{not-true as was-false, not-false as was-true}
pub use Rattle.exact.specs.Tests.{clash, never, not-false, not-true, way, T_true, true_T, or_l, or_r, or_cases, or_false, false_or, and_both, and_parts}
use Rattle.seq.specs.Seq.{Bool, true, false, ℕ, eqb}

pub bool-ext : (a b : Bool) → (a ≡ true → b ≡ true) → (b ≡ true → a ≡ true) → a ≡ b
bool-ext true b f g = sym (f refl)
bool-ext false true f g = g refl
bool-ext false false f g = refl

-- numbers that are equal where two others are
pub eqb_iff : (a b c d : ℕ) → (a ≡ b → c ≡ d) → (c ≡ d → a ≡ b) → eqb a b ≡ eqb c d
eqb_iff a b c d f g = bool-ext (eqb a b) (eqb c d) (λ e. eq-eqb c d (f (eqb-true a b e))) (λ e. eq-eqb a b (g (eqb-true c d e)))

pub eqb_swap : (x y : ℕ) → eqb x y ≡ eqb y x
eqb_swap x y = eqb_iff x y y x (λ e. sym e) (λ e. sym e)
