-- The edge from one corner to another is within the bounds of an edge. Assumes nothing.
use mathlib.Core.Path.{◌≡◌, sym, subst}
use mathlib.Core.List.{[], ◌∷◌}
use Prim.Native.Nat.{ℕ, ◌≤◌}
use lib.IntN.{ℤ, nat_abs, ◌+ℤ◌, ◌-ℤ◌}
use Rattle.exact.specs.Solve.{ring, reify}
use Rattle.exact.specs.Mach.{tru, atmost}
use Rattle.paper.specs.Plane.{Vec}
use Rattle.plane.specs.Values.{from_to}
use Rattle.plane.specs.Bounds.{Corner, Edge}

-- from a by b - a is b
arrives : (a b : ℤ) (B : ℕ) → nat_abs b ≤ B → nat_abs (a +ℤ (b -ℤ a)) ≤ B
arrives a b B h =
    let e : a +ℤ (b -ℤ a) ≡ b = ring (a ∷ b ∷ []) (search reify depth 20) tt in
    subst (λ (z : ℤ). nat_abs z ≤ B) (sym e) h

pub edge_from_to : (a b : Vec) → Corner a → Corner b → Edge (from_to a b)
edge_from_to a b h l =
    record {
      foot_is = h;
      head_is = record { x_is = arrives a.x b.x _ l.x_is; y_is = arrives a.y b.y _ l.y_is };
      up_is = record { x_is = atmost (search tru depth 20) tt; y_is = atmost (search tru depth 20) tt };
    }
