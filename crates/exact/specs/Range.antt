-- Signed machine numbers of which only the range of their type is known, so that no bound of Mach applies: a number that is not negative as an unsigned
-- one; what a quotient and a remainder by a number are of what the machine reads back, and that a quotient has the range of its type. Assumes nothing.
use Rattle.std.specs.Prelude.{◌≡◌, ℕ, zero, suc, ◌/◌, ◌^◌, ◌≤◌, T, leb, ℤ, pos, negsuc, neg_ℤ, nat_abs, ◌≤ℤ◌}
use Rattle.std.proofs.Common.{sym, ap, subst, zero-le, lt_of_lt_of_le, div-le_self, arith, leb→le}
use Rattle.std.specs.Int.Signed.{mag, quot_z, rem_z, non_neg}
use Rattle.std.specs.Int.{Width}
use mir.Val.{Fits, SFits, to_z, of_z, bits, hbits}
use mir.ValLaws.{to_z-of_z, sfits_le}

-- a number that is not negative, of the width w, as an unsigned number of the width w'
not_negative : (w w' : Width) (x : ℤ) → SFits w x → T (leb (2 ^ hbits w) (2 ^ bits w')) → pos 0 ≤ℤ x → T (non_neg x) × Fits w' (nat_abs x)
not_negative w w' (pos n) f t h = (tt, record { fits = lt_of_lt_of_le f.sfits (leb→le (2 ^ hbits w) (2 ^ bits w') t) })
not_negative w w' (negsuc n) f t h = absurd h.le

pub cast-range : (w w' : Width) (x : ℤ) → SFits w x → T (leb (2 ^ hbits w) (2 ^ bits w')) → pos 0 ≤ℤ x → T (non_neg (to_z w (of_z w x))) × Fits w' (nat_abs (to_z w (of_z w x)))
cast-range w w' x f t h = subst (λ (z : ℤ). T (non_neg z) × Fits w' (nat_abs z)) (sym (to_z-of_z w x f)) (not_negative w w' x f t h)

-- of what the machine reads back
pub quot_read : (w : Width) (x : ℤ) (g : ℕ) → SFits w x → quot_z (to_z w (of_z w x)) (pos g) ≡ quot_z x (pos g)
quot_read w x g f = ap (λ (z : ℤ). quot_z z (pos g)) (to_z-of_z w x f)

pub rem_read : (w : Width) (x : ℤ) (g : ℕ) → SFits w x → rem_z (to_z w (of_z w x)) (pos g) ≡ rem_z x (pos g)
rem_read w x g f = ap (λ (z : ℤ). rem_z z (pos g)) (to_z-of_z w x f)

-- a quotient by a positive number has the range of the number that is divided
pub mag_quot : (x : ℤ) (g : ℕ) → mag (quot_z x (pos g)) ≤ mag x
mag_quot (pos a) g = div-le_self a g
mag_quot (negsuc a) g = least (suc a / g) (div-le_self (suc a) g)
  where
    least : (r : ℕ) → r ≤ suc a → mag (neg_ℤ (pos r)) ≤ a
    least zero h = zero-le
    least (suc r) h = omega arith

pub quot_range : (w : Width) (x : ℤ) (g : ℕ) → SFits w x → SFits w (quot_z x (pos g))
quot_range w x g f = sfits_le (mag_quot x g) f

pub quot_fits : (w : Width) (x : ℤ) (g : ℕ) → SFits w x → SFits w (quot_z (to_z w (of_z w x)) (pos g))
quot_fits w x g f = subst (SFits w) (sym (quot_read w x g f)) (quot_range w x g f)
