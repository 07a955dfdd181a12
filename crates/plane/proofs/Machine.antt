-- What the machine reads back of a value within its bounds is that value. Assumes nothing.
use mathlib.Core.Path.{◌≡◌, ◌∙◌}
use Prim.Native.Nat.{◌≤◌}
use lib.IntN.{ℤ, pos, neg_ℤ, nat_abs, ◌-ℤ◌, +ℤ_idl}
use mir.Syntax.{w64}
use mir.Val.{to_z, of_z}
use Rattle.exact.specs.Lowest.{pt}
use Rattle.exact.specs.Mach.{tr, plain}
use Rattle.paper.specs.Limits.{denominators}
use Rattle.paper.specs.Plane.{vec}
use Rattle.plane.specs.Values.{seg}
use Rattle.plane.specs.Bounds.{Direction, Near, Edge}

-- what is read back from the bits of z
abbrev pub back : ℤ → ℤ
back z = to_z w64 (of_z w64 z)

-- a number of a crossing's parameter, and what it is turned
module _ (n : ℤ) (h : nat_abs n ≤ denominators) where
  pub number_back : back n ≡ n
  number_back = plain (search tr depth 20) tt

  pub turned_back : back (pos 0 -ℤ back n) ≡ neg_ℤ n
  turned_back = plain (search tr depth 20) tt ∙ +ℤ_idl (neg_ℤ n)

pub vec_back : (x y : ℤ) → Direction (vec x y) → vec (back x) (back y) ≡ vec x y
vec_back x y h =
    let ex : back x ≡ x = plain (search tr depth 20) tt in
    let ey : back y ≡ y = plain (search tr depth 20) tt in
    λ i. vec (ex i) (ey i)

pub pt_back : (x y d : ℤ) → Near (pt x y d) → pt (back x) (back y) (back d) ≡ pt x y d
pt_back x y d n =
    let ex : back x ≡ x = plain (search tr depth 20) tt in
    let ey : back y ≡ y = plain (search tr depth 20) tt in
    let ed : back d ≡ d = plain (search tr depth 20) tt in
    λ i. pt (ex i) (ey i) (ed i)

pub seg_back : (x y u v : ℤ) → Edge (seg x y u v) → seg (back x) (back y) (back u) (back v) ≡ seg x y u v
seg_back x y u v e =
    let ex : back x ≡ x = plain (search tr depth 20) tt in
    let ey : back y ≡ y = plain (search tr depth 20) tt in
    let eu : back u ≡ u = plain (search tr depth 20) tt in
    let ev : back v ≡ v = plain (search tr depth 20) tt in
    λ i. seg (ex i) (ey i) (eu i) (ev i)
