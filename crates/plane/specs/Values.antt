-- The values of the code as the values of document 01's definitions: a Point is a point in fractions, a Vector a corner or a direction, a Seg an edge in whole
-- numbers, an Option of a Point a point or none, a Meeting one of the four ways in which two edges meet. Assumes nothing.
use Rattle.std.specs.Prelude.{ℤ}
use Rattle.exact.specs.Lowest.{pt}
use Rattle.exact.specs.declared.terms.Point.{Point}
use Rattle.paper.specs.Plane.{Pt, Vec, vec, minus_v}
use Rattle.paper.specs.Plane as Plane
use Rattle.plane.specs.declared.point.Vector.{Vector}
use Rattle.plane.specs.declared.point.Seg.{Seg}
use Rattle.std.specs.declared.option.Option as Std
use Rattle.std.specs.declared.option.Option.TheVariants.{None, Some}
use Rattle.paper.specs.Meeting.{apart, touching, crossing, sharing}
use Rattle.paper.specs.Meeting as Meetings
use Rattle.plane.specs.declared.kinds.Meeting.{Meeting}
use Rattle.plane.specs.declared.kinds.Meeting.TheVariants.{Apart, Touching, Crossing, Sharing}
use Rattle.seq.specs.Seq.{Option, none, some}

-- the edge from the corner x, y along u, v
abbrev pub seg : ℤ → ℤ → ℤ → ℤ → Plane.Seg
seg x y u v = record { foot = vec x y; up = vec u v }

-- the edge from a to b
abbrev pub from_to : Vec → Vec → Plane.Seg
from_to a b = record { foot = a; up = minus_v b a }

abbrev pub pt_of : Point → Pt
pt_of p = pt p.x p.y p.d

abbrev pub vec_of : Vector → Vec
vec_of u = vec u.x u.y

abbrev pub seg_of : Seg → Plane.Seg
seg_of s = seg s.x s.y s.u s.v

abbrev pub cross_of : Std.Option Point → Option Pt
cross_of None = none
cross_of (Some p) = some (pt_of p)

abbrev pub meeting_of : Meeting → Meetings.Meeting
meeting_of Apart = apart
meeting_of (Touching p) = touching (pt_of p)
meeting_of (Crossing p) = crossing (pt_of p)
meeting_of Sharing = sharing
