-- The parameters of a crossing, as numbers over a denominator, and the point at a parameter: "In 000 the second parameter of a crossing is printed with a plus
-- in its denominator; both denominators are u1·v2 − u2·v1". Assumes nothing.
use Rattle.std.specs.Prelude.{ℤ, ◌+ℤ◌, ◌-ℤ◌, ◌*ℤ◌}
use Rattle.exact.specs.Lowest.{Pt, pt}
use Rattle.paper.specs.Plane.{Seg, cross, minus_v}

-- of the point along s
abbrev pub first_over : Seg → Seg → ℤ
first_over s t = s.up.x *ℤ t.up.y -ℤ s.up.y *ℤ t.up.x

-- of the point along t
abbrev pub second_over : Seg → Seg → ℤ
second_over s t = s.up.x *ℤ t.up.y -ℤ s.up.y *ℤ t.up.x

-- from the foot of s to that of t, against the direction of e: e is t for the first parameter, s for the second
abbrev pub number_over : Seg → Seg → Seg → ℤ
number_over s t e = cross (minus_v t.foot s.foot) e.up

-- the point of s at n/d, over d
abbrev pub point_along : Seg → ℤ → ℤ → Pt
point_along s n d = pt (s.foot.x *ℤ d +ℤ n *ℤ s.up.x) (s.foot.y *ℤ d +ℤ n *ℤ s.up.y) d
