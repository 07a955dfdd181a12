-- `bonnetewe::height::of_millimetres` meets its contract. Assumes nothing.
use mathlib.Core.Path.{◌≡◌, sym, ap, ◌∙◌, subst}
use Prim.Native.Nat.{ℕ, ◌≤◌, ◌*◌, ◌+◌}
use native.Mathlib.Omega.{arith}
use mir.Syntax.{w32, w64}
use mir.Val.{SFits, Fits, to_z, of_z}
use mir.ValLaws.{to_z-of_z}
use lib.IntN.{ℤ, pos, negsuc, nat_abs}
use lib.Signed.{◌≤ℤ◌, ◌<ℤ◌, lt_z_yes, lt_z_no}
use borrow.Author.Rules.{rules}
use Rattle.exact.specs.Order.{pos≮0}
use Rattle.exact.specs.Mach.{trs, trbs, fits, taken, left}
use Rattle.bonnetewe.specs.ToldTide.{told_millimetres}
use Rattle.bonnetewe.proofs.height.of_millimetres.Goals as goal
use Rattle.bonnetewe.proofs.height.of_millimetres.Goals.{After-unsigned_abs-size}

pub overflow_cast-n : goal.overflow_cast-n
overflow_cast-n c = fits (search trs depth 20) tt

-- ── the magnitude of what 32 bits hold ──
small : (z : ℤ) → SFits w32 z → nat_abs z ≤ 2147483648
small (pos n) f = omega (arith, f.sfits)
small (negsuc n) f = omega (arith, f.sfits)

wide : (z : ℤ) → SFits w32 z → SFits w64 z
wide (pos n) f = record { sfits = omega (arith, f.sfits) }
wide (negsuc n) f = record { sfits = omega (arith, f.sfits) }

module _ (c : After-unsigned_abs-size) where
  abbrev z : ℤ
  z = c.args.n

  held : SFits w32 z
  held = search rules

  is : c.unsigned_abs-size.result ≡ nat_abs z
  is = c.unsigned_abs-size.ensures.value ∙ ap nat_abs (ap (λ (k : ℤ). to_z w64 (of_z w64 k)) (to_z-of_z w32 z held) ∙ to_z-of_z w64 z (wide z held))

  most : c.unsigned_abs-size.result ≤ 2147483648
  most = subst (λ (k : ℕ). k ≤ 2147483648) (sym is) (small z held)

-- ── products that fit ──
once : (n : ℕ) → n ≤ 2147483648 → Fits w64 (65536 * n)
once n h = record { fits = omega arith }

twice : (s n : ℕ) → s ≤ 1 → n ≤ 2147483648 → Fits w64 (65536 * (s + 65536 * n))
twice s n l h = record { fits = omega arith }

pub overflow_add-result : goal.overflow_add-result
overflow_add-result c = let h = most (goal.at.overflow_add-result c).After-unsigned_abs-size in record { fits = omega arith }

pub overflow_mul-result-then-n-lt0 : goal.overflow_mul-result-then-n-lt0
overflow_mul-result-then-n-lt0 c = twice 1 c.unsigned_abs-size.result (omega arith) (most (goal.at.overflow_mul-result-then-n-lt0 c).After-unsigned_abs-size)

pub overflow_mul-result-3 : goal.overflow_mul-result-3
overflow_mul-result-3 c = let h = most (goal.at.overflow_mul-result-3 c).After-unsigned_abs-size in record { fits = omega arith }

-- ── by the sign ──
below : (z : ℤ) (n : ℕ) → z <ℤ pos 0 → n ≡ nat_abs z → 65536 * (1 + 65536 * n) ≡ told_millimetres z
below (pos k) n l e = absurd (pos≮0 k l)
below (negsuc k) n l e = ap (λ (m : ℕ). 65536 * (1 + 65536 * m)) e

from_zero : (z : ℤ) (n : ℕ) → pos 0 ≤ℤ z → n ≡ nat_abs z → 65536 * (65536 * n) ≡ told_millimetres z
from_zero (pos k) n l e = omega (arith, e)
from_zero (negsuc k) n l e = absurd l.le

pub returns-then-n-lt0 : goal.returns-then-n-lt0
returns-then-n-lt0 c = let st = (goal.at.returns-then-n-lt0 c).After-unsigned_abs-size in below (z st) c.unsigned_abs-size.result (lt_z_yes (taken c.if-n-lt0.true (search trbs depth 20) tt)) (is st)

pub returns : goal.returns
returns c = let st = (goal.at.returns c).After-unsigned_abs-size in from_zero (z st) c.unsigned_abs-size.result (lt_z_no (left c.if-n-lt0.false (search trbs depth 20) tt)) (is st)

pub overflow_mul-result : goal.overflow_mul-result
overflow_mul-result c = once c.unsigned_abs-size.result (most (goal.at.overflow_mul-result c).After-unsigned_abs-size)

pub overflow_mul-result-2 : goal.overflow_mul-result-2
overflow_mul-result-2 c = once c.unsigned_abs-size.result (most (goal.at.overflow_mul-result-2 c).After-unsigned_abs-size)
