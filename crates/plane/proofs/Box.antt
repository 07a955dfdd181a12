-- A point of an edge at n/d with 0 ≤ n ≤ d is within the bounds of the edge's ends: x·d + n·u = x·(d − n) + (x + u)·n. Assumes nothing.
use mathlib.Core.Path.{◌≡◌}
use mathlib.Core.List.{[], ◌∷◌}
use Prim.Native.Nat.{ℕ, ◌+◌, ◌*◌, ◌≤◌}
use native.Mathlib.Nat.{le_refl, le_trans, mul-le-mul, mul-add}
use native.Mathlib.Omega.{arith}
use lib.IntN.{ℤ, pos, negsuc, neg_ℤ, nat_abs, ◌+ℤ◌, ◌-ℤ◌, ◌*ℤ◌}
use lib.Signed.{◌≤ℤ◌}
use Rattle.exact.specs.Solve.{ring, reify}
use Rattle.exact.specs.Parts.{pp, np, is-+, is_neg_lem, ≤-to}
use Rattle.exact.specs.Mach.{bd-+, bd-*}

-- |d - n| + |n| = |d|
parts : (n d : ℤ) → pos 0 ≤ℤ n → n ≤ℤ d → nat_abs (d -ℤ n) + nat_abs n ≡ nat_abs d
parts (pos a) (pos b) h l = of (pos b -ℤ pos a) (omega (arith, is-+ (pos b) (neg_ℤ (pos a)), is_neg_lem (pos a), ≤-to (pos a) (pos b) l))
  where
    of : (z : ℤ) → pp z + a ≡ np z + b → nat_abs z + a ≡ b
    of (pos n) e = omega arith
    of (negsuc n) e = omega (arith, ≤-to (pos a) (pos b) l)
parts (pos a) (negsuc b) h l = absurd l.le
parts (negsuc a) d h l = absurd h.le

module _ (x u n d : ℤ) (B : ℕ) where
  between_ends : x *ℤ d +ℤ n *ℤ u ≡ x *ℤ (d -ℤ n) +ℤ (x +ℤ u) *ℤ n
  between_ends = ring (x ∷ u ∷ n ∷ d ∷ []) (search reify depth 20) tt

  pub weighed : nat_abs x ≤ B → nat_abs (x +ℤ u) ≤ B → pos 0 ≤ℤ n → n ≤ℤ d → nat_abs (x *ℤ d +ℤ n *ℤ u) ≤ B * nat_abs d
  weighed f g h l =
      let sum = bd-+ (x *ℤ (d -ℤ n)) ((x +ℤ u) *ℤ n) (B * nat_abs (d -ℤ n)) (B * nat_abs n) (bd-* x (d -ℤ n) B (nat_abs (d -ℤ n)) f (le_refl (nat_abs (d -ℤ n)))) (bd-* (x +ℤ u) n B (nat_abs n) g (le_refl (nat_abs n))) in
      rw (between_ends, ← parts n d h l, mul-add) sum

  -- and so within B times any bound of d
  pub weighed_below : (K : ℕ) → nat_abs d ≤ K → nat_abs x ≤ B → nat_abs (x +ℤ u) ≤ B → pos 0 ≤ℤ n → n ≤ℤ d → nat_abs (x *ℤ d +ℤ n *ℤ u) ≤ B * K
  weighed_below K k f g h l = le_trans (weighed f g h l) (mul-le-mul (le_refl B) k)
