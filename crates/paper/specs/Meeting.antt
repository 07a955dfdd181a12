-- How two edges meet (02, Ask 2): of two edges that go up, and asked by itself of eight numbers. Assumes nothing.
use Rattle.std.specs.Prelude.{◌&&◌, ◌||◌, ◌∷◌}
use Rattle.seq.specs.Seq.{Bool, true, false, cond, not, List, [], Option, none, some, ltb, ℤ, nat_abs}
use Rattle.paper.specs.Limits.{reach}
use Rattle.paper.specs.Plane.{Sign, neg, zer, plus, sgn, is_zer, Pt, Vec, vec, Seg, cross, head, whole, order, same, lower, upper, between, the_left_by, inside}
use Rattle.paper.specs.Plane.{crossing as common}
use Rattle.paper.specs.Refusal.{Refusal, Answer, given, first_of, answer}

-- "apart, touching at an end of either, crossing inside both, or sharing a stretch, with the point where there is one"
pub data Meeting : Type 0 where
  apart : Meeting
  touching : Pt → Meeting
  crossing : Pt → Meeting
  sharing : Meeting

-- edges that are not parallel: by the point on both, where there is one
abbrev pub meeting_at : Seg → Seg → Option Pt → Meeting
meeting_at s t none = apart
meeting_at s t (some p) = cond (inside s p && inside t p) (crossing p) (touching p)

-- edges in one line: the common part runs from lo, the greater of the lower ends, to hi, the lesser of the upper ends; by the order of the two.
-- "Edges in one line that touch end to end count as touching, with that point"
abbrev pub stretch : Pt → Sign → Meeting
stretch lo neg = sharing
stretch lo zer = touching lo
stretch lo plus = apart

abbrev pub in_line : Seg → Seg → Meeting
in_line s t =
    let lo = upper (whole s.foot) (whole t.foot) in
    let hi = lower (whole (head s)) (whole (head t)) in
    stretch lo (order lo hi)

-- how two edges meet; both go up
abbrev pub meeting : Seg → Seg → Meeting
meeting s t =
    cond (is_zer (sgn (cross s.up t.up)))
    (cond (is_zer (sgn (the_left_by s (whole t.foot)))) (in_line s t) apart)
    (meeting_at s t (common s t))

-- ── what the map check and the collecting of vertices take from it ──

-- the point, where there is one
abbrev pub point_of : Meeting → Option Pt
point_of apart = none
point_of (touching p) = some p
point_of (crossing p) = some p
point_of sharing = none

abbrev pub is_end : Seg → Pt → Bool
is_end s p = same (whole s.foot) p || same (whole (head s)) p

-- refusal 8: "any point that is not an end of both, a stretch or the whole edge included"
abbrev pub clash_by : Seg → Seg → Meeting → Bool
clash_by s t apart = false
clash_by s t (touching p) = not (is_end s p && is_end t p)
clash_by s t (crossing p) = true
clash_by s t sharing = true

-- ── asked by itself ──

-- "a coordinate beyond its range"
abbrev pub beyond : Vec → Bool
beyond a = ltb reach (nat_abs a.x) || ltb reach (nat_abs a.y)

-- "it refuses with 5 for a coordinate beyond its range and then 7 for an edge of no length; place 0 for the first edge, 1 for the second": both
-- edges for 5, then both for 7
abbrev pub meet_faults : Vec → Vec → Vec → Vec → List (Option Refusal)
meet_faults a b c d =
    given 5 0 (beyond a || beyond b)
    ∷ given 5 1 (beyond c || beyond d)
    ∷ given 7 0 (same (whole a) (whole b))
    ∷ given 7 1 (same (whole c) (whole d))
    ∷ []

-- the edge from a to b, and that from c to d
abbrev pub meet_corners : Vec → Vec → Vec → Vec → Answer Meeting
meet_corners a b c d = answer (meeting (between a b) (between c d)) (first_of (meet_faults a b c d))

-- of eight numbers: x and y of each end
abbrev pub meet : ℤ → ℤ → ℤ → ℤ → ℤ → ℤ → ℤ → ℤ → Answer Meeting
meet ax ay bx by cx cy dx dy = meet_corners (vec ax ay) (vec bx by) (vec cx cy) (vec dx dy)
