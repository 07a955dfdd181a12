-- A plane graph as half-edges see it, one for the maps and for the overlay: points, and edges that join two of them. Half-edge 2k goes along
-- edge k `from` its one point, 2k + 1 back. Followers, walks, hole walks (01, "Points, sides, followers") and looking west. Assumes nothing.
use Rattle.std.specs.Prelude.{◌&&◌, ◌∷◌, ◌+◌, ◌*◌, ◌-◌, ◌/◌, ◌%◌, ◌-ℤ◌, ◌*ℤ◌}
pub use Rattle.seq.specs.Seq.{walk}
use Rattle.seq.specs.Seq.{Bool, true, false, cond, not, List, [], Option, Option·getD, Option·map, ℕ, eqb, length, get_or, ℤ, neg_ℤ, table, best, best_of, among}
use Rattle.paper.specs.Plane.{Pt, Vec, Seg, vec, whole, opposite, nowhere, cross, rises, before, below, lower, upper, less_angle, the_left_by}

-- an edge: the numbers of the points that it joins, and its carrier, the input edge that it lies along, from its lower end. Of a map's edge
-- that is itself. Of a piece it is the whole edge: direction and side come from small whole numbers
pub record Edge : Type 0 where
  pub from : ℕ
  pub to : ℕ
  pub carrier : Seg

pub record Graph : Type 0 where
  pub points : List Pt
  pub edges : List Edge

abbrev pub edge_count : Graph → ℕ
edge_count g = length g.edges

abbrev pub the_half_count : Graph → ℕ
the_half_count g = 2 * edge_count g

abbrev pub point_in : List Pt → ℕ → Pt
point_in ps v = get_or ps v (whole nowhere)

abbrev pub point : Graph → ℕ → Pt
point g v = point_in g.points v

abbrev pub no_edge : Edge
no_edge = record { from = 0; to = 0; carrier = record { foot = nowhere; up = nowhere } }

abbrev pub edge : Graph → ℕ → Edge
edge g k = get_or g.edges k no_edge

abbrev pub even : ℕ → Bool
even h = eqb (h % 2) 0

abbrev pub twin : ℕ → ℕ
twin h = cond (even h) (h + 1) (h - 1)

abbrev pub origin : Graph → ℕ → ℕ
origin g h = let e = edge g (h / 2) in cond (even h) e.from e.to

-- the point where half-edge h starts
abbrev pub start : Graph → ℕ → Pt
start g h = point g (origin g h)

-- the ends of edge k
abbrev pub low : Graph → ℕ → Pt
low g k = lower (start g (2 * k)) (start g (2 * k + 1))

abbrev pub high : Graph → ℕ → Pt
high g k = upper (start g (2 * k)) (start g (2 * k + 1))

abbrev pub goes_up : Graph → ℕ → Bool
goes_up g h = before (start g h) (start g (twin h))

-- the upward direction of edge k
abbrev pub upward : Graph → ℕ → Vec
upward g k = (edge g k).carrier.up

-- the direction in which half-edge h goes
abbrev pub heading : Graph → ℕ → Vec
heading g h = let u = upward g (h / 2) in cond (goes_up g h) u (opposite u)

-- ── followers ──

-- going clockwise from t, the outgoing half-edge h comes before r: those of lesser angle than t come first, and among those of one kind the
-- greater angle
abbrev pub sooner : Graph → ℕ → ℕ → ℕ → Bool
sooner g t h r =
    let hl = less_angle (heading g h) (heading g t) in
    let rl = less_angle (heading g r) (heading g t) in
    let hr = less_angle (heading g r) (heading g h) in
    cond hl (cond rl hr true) (cond rl false hr)

abbrev pub leaves : Graph → ℕ → ℕ → Bool
leaves g v h = eqb (origin g h) v

-- "the first outgoing half-edge clockwise from its twin; with one edge at p it is the twin"
abbrev pub follower : Graph → ℕ → ℕ
follower g h = let t = twin h in let v = origin g t in
    Option·getD (best (λ x. leaves g v x && not (eqb x t)) (sooner g t) (the_half_count g)) t

abbrev pub followers : Graph → List ℕ
followers g = table (follower g) (the_half_count g)

-- ── walks, over the list of followers: "A walk is what following gives" (`walk` of seq) ──

-- the smallest vertex of the walk through h
abbrev pub smallest : Graph → List ℕ → ℕ → ℕ
smallest g nx h = origin g (best_of (λ x y. before (start g x) (start g y)) h (walk nx h))

-- "the half-edge of greatest angle out of" the vertex v
abbrev pub greatest_out : Graph → ℕ → Option ℕ
greatest_out g v = best (leaves g v) (λ h r. less_angle (heading g r) (heading g h)) (the_half_count g)

-- the greatest-angle half-edge out of the smallest vertex of the walk through h is one of hs
abbrev pub turns_among : Graph → List ℕ → ℕ → List ℕ → Bool
turns_among g nx h hs = among (greatest_out g (smallest g nx h)) hs

-- "a hole walk exactly if it holds the half-edge of greatest angle out of its own smallest vertex"
abbrev pub hole_walk : Graph → List ℕ → ℕ → Bool
hole_walk g nx h = turns_among g nx h (walk nx h)

-- h is the half-edge that makes its walk a hole walk
abbrev pub makes_hole : Graph → List ℕ → ℕ → Bool
makes_hole g nx h = turns_among g nx h (h ∷ [])

-- ── looking west: from a point along a direction ──

-- "lower y ≤ y of p < upper y". No horizontal edge has that
abbrev pub at_height : Graph → Pt → ℕ → Bool
at_height g p k = not (below p (low g k)) && below p (high g k)

-- how far p lies to the left of edge k: negative where the edge lies west of p, 0 where p is on it
abbrev pub left_of : Graph → Pt → ℕ → ℤ
left_of g p k = the_left_by (edge g k).carrier p

-- "lie west of p, or go through or start at p with an upward direction of greater angle than" d. None is greater than `nowhere`
abbrev pub westward : Graph → Pt → Vec → ℕ → Bool
westward g p d k = rises (vec (cross d (upward g k)) (neg_ℤ (left_of g p k)))

-- "the greatest x at that height; among equals, the smallest upward angle": k is nearer than r. The x of an edge, less that of p, is `left_of`
-- over the y of its upward direction, up to p's D, which both share
abbrev pub nearer : Graph → Pt → ℕ → ℕ → Bool
nearer g p k r = let u = upward g k in let v = upward g r in
    rises (vec (cross u v) (left_of g p k *ℤ v.y -ℤ left_of g p r *ℤ u.y))

-- "the half-edge on its east side": the one that goes down
abbrev pub east_side : Graph → ℕ → ℕ
east_side g k = cond (goes_up g (2 * k)) (2 * k + 1) (2 * k)

-- what is seen from p along d; none is "the outside"
abbrev pub west : Graph → Pt → Vec → Option ℕ
west g p d = Option·map (east_side g) (best (λ k. at_height g p k && westward g p d k) (nearer g p) (edge_count g))

-- "For a hole walk, look from its smallest vertex counting only edges strictly west"
abbrev pub hole_look : Graph → List ℕ → ℕ → Option ℕ
hole_look g nx h = west g (point g (smallest g nx h)) nowhere
