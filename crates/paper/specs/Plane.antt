-- Points, their order, sides, angles, the crossing of two edges and when two clash (01, "Points, sides, followers"): exact, over the integers.
-- x grows east and y grows north. Assumes nothing.
use Rattle.std.specs.Prelude.{◌&&◌, ◌||◌, ◌+ℤ◌, ◌-ℤ◌, ◌*ℤ◌}
pub use Rattle.exact.specs.Exact.{Pt, lowest}
pub use Rattle.exact.specs.Exact.{Sign, neg, zer, plus, sgn, is_neg, is_zer, is_plus, pick, lex_s}
use Rattle.std.specs.Int.Signed.{le_z}
use Rattle.seq.specs.Seq.{Bool, cond, not, Option, none, some, zero, suc, ℤ, pos, negsuc, neg_ℤ}

-- ── directions ──

-- a direction, or a corner of a map: two whole numbers
pub record Vec : Type 0 where
  pub x : ℤ
  pub y : ℤ

abbrev pub vec : ℤ → ℤ → Vec
vec x y = record { x = x; y = y }

abbrev pub nowhere : Vec
nowhere = vec (pos 0) (pos 0)

abbrev pub plus_v : Vec → Vec → Vec
plus_v a b = vec (a.x +ℤ b.x) (a.y +ℤ b.y)

abbrev pub minus_v : Vec → Vec → Vec
minus_v a b = vec (a.x -ℤ b.x) (a.y -ℤ b.y)

abbrev pub opposite : Vec → Vec
opposite u = vec (neg_ℤ u.x) (neg_ℤ u.y)

-- u1·v2 − u2·v1
abbrev pub cross : Vec → Vec → ℤ
cross u v = u.x *ℤ v.y -ℤ u.y *ℤ v.x

-- plus: to the north, or level to the east, an angle from 0 to just under 180 degrees; neg: the opposite; zer: nowhere
abbrev pub climb : Vec → Sign
climb u = lex_s u.y u.x

abbrev pub rises : Vec → Bool
rises u = is_plus (climb u)

-- "Angles .. run from 0 (east) counter-clockwise to just under 360 degrees": the angle of u is less than that of v
abbrev pub less_angle : Vec → Vec → Bool
less_angle u v = let left = is_plus (sgn (cross u v)) in cond (rises u) (not (rises v) || left) (not (rises v) && left)

-- ── points ──

-- a corner as a point: "a corner (x, y) is the vertex (x, y, 1)"
abbrev pub whole : Vec → Pt
whole a = record { X = a.x; Y = a.y; D = pos 1 }

-- from a to b, times the product of the two denominators
abbrev pub dir : Pt → Pt → Vec
dir a b = vec (b.X *ℤ a.D -ℤ a.X *ℤ b.D) (b.Y *ℤ a.D -ℤ a.Y *ℤ b.D)

-- "Order: smaller y first, then smaller x": neg where a comes first, zer where they are one point
abbrev pub order : Pt → Pt → Sign
order a b = climb (dir b a)

abbrev pub before : Pt → Pt → Bool
before a b = is_neg (order a b)

abbrev pub same : Pt → Pt → Bool
same a b = is_zer (order a b)

-- a has the smaller y
abbrev pub below : Pt → Pt → Bool
below a b = is_neg (sgn (dir b a).y)

-- "An edge's lower end is its smaller end"
abbrev pub lower : Pt → Pt → Pt
lower a b = cond (before b a) b a

abbrev pub upper : Pt → Pt → Pt
upper a b = cond (before b a) a b

-- ── an edge in whole numbers ──

-- "An edge p to p+u"
pub record Seg : Type 0 where
  pub foot : Vec
  pub up : Vec

abbrev pub head : Seg → Vec
head s = plus_v s.foot s.up

-- the edge between two corners, from its lower end
abbrev pub between : Vec → Vec → Seg
between a b =
    cond (before (whole b) (whole a)) (record { foot = b; up = minus_v a b }) (record { foot = a; up = minus_v b a })

-- from a corner to a point, times the point's D
abbrev pub towards : Vec → Pt → Vec
towards a p = vec (p.X -ℤ a.x *ℤ p.D) (p.Y -ℤ a.y *ℤ p.D)

-- how far p lies to the left of the directed line of s: positive left, 0 on it, negative right. It is also the x of that line at the height
-- of p, less the x of p, times the y of s's direction and the D of p
abbrev pub the_left_by : Seg → Pt → ℤ
the_left_by s p = cross s.up (towards s.foot p)

-- "The side of a point against a directed line is +1 left, 0 on it, −1 right"
abbrev pub sign_number : Sign → ℤ
sign_number neg = negsuc 0
sign_number zer = pos 0
sign_number plus = pos 1

abbrev pub side : Seg → Pt → ℤ
side s p = sign_number (sgn (the_left_by s p))

-- ── the crossing of two edges ──

-- 0 ≤ n/d ≤ 1, at d > 0
abbrev pub within : ℤ → ℤ → Bool
within n d = le_z (pos 0) n && le_z n d

-- p + (n/d)·u at d > 0, "exactly when both parameters lie from 0 to 1, ends included"
abbrev pub cross_at : Seg → ℤ → ℤ → ℤ → Option Pt
cross_at s n m d =
    cond (within n d && within m d)
    (some (lowest (s.foot.x *ℤ d +ℤ n *ℤ s.up.x) (s.foot.y *ℤ d +ℤ n *ℤ s.up.y) d))
    none

-- the parameters' numerators over "u1·v2 − u2·v1", turned so that it is positive; none where it is 0
abbrev pub cross_by : Seg → ℤ → ℤ → ℤ → Option Pt
cross_by s n m (pos zero) = none
cross_by s n m (pos (suc d)) = cross_at s n m (pos (suc d))
cross_by s n m (negsuc d) = cross_at s (neg_ℤ n) (neg_ℤ m) (pos (suc d))

-- "An edge p to p+u meets an edge p' to p'+v in one point"
abbrev pub crossing : Seg → Seg → Option Pt
crossing s t = let w = minus_v t.foot s.foot in
    cross_by s (cross w t.up) (cross w s.up) (cross s.up t.up)

-- ── clashes ──

-- p lies inside the edge, its ends not included; s goes up
abbrev pub inside : Seg → Pt → Bool
inside s p = is_zer (sgn (the_left_by s p)) && (before (whole s.foot) p && before p (whole (head s)))

-- p lies on the edge, its ends included
abbrev pub on_seg : Seg → Pt → Bool
on_seg s p = is_zer (sgn (the_left_by s p)) && (not (before p (whole s.foot)) && not (before (whole (head s)) p))

-- one is left and the other right
abbrev pub opposed : Sign → Sign → Bool
opposed a b = (is_neg a && is_plus b) || (is_plus a && is_neg b)

-- the ends of t lie strictly on the two sides of the line of s
abbrev pub apart : Seg → Seg → Bool
apart s t = opposed (sgn (the_left_by s (whole t.foot))) (sgn (the_left_by s (whole (head t))))

-- "shares .. any point that is not an end of both, a stretch or the whole edge included": an end of one lies inside the other, or they cross
-- inside, or they have both ends in common; both go up
abbrev pub clash : Seg → Seg → Bool
clash s t =
    let tee = (inside s (whole t.foot) || inside s (whole (head t))) || (inside t (whole s.foot) || inside t (whole (head s))) in
    let across = apart s t && apart t s in
    let equal = same (whole s.foot) (whole t.foot) && same (whole (head s)) (whole (head t)) in
    tee || (across || equal)
