-- Map files (01, "Map file"): the map that the bytes hold, and its check, refusals 1 to 10. Assumes nothing.
use Rattle.std.specs.Prelude.{◌&&◌, ◌||◌, ◌∷◌, ◌++◌, ◌+◌, ◌*◌, ◌/◌, ◌%◌}
use Rattle.seq.specs.Seq.{Bool, not, List, [], map, Option, ℕ, leb, ltb, eqb, length, get_or, nat_abs, least, the_some_below, table, or_zero}
use Rattle.paper.specs.Limits.{map_vertices, map_edges, reach, map_head}
use Rattle.paper.specs.Plane.{Vec, vec, nowhere, whole, same, between, clash}
use Rattle.paper.specs.Graph.{edge_count, the_half_count, point, edge, leaves, followers, makes_hole, hole_look, Edge, Graph}
use Rattle.paper.specs.Bytes.{ascii, marked, u16, signed_at}
use Rattle.paper.specs.Refusal.{given, beside, first_at, first_of, answer, Refusal, Answer}

-- a map: its graph, and of each half-edge its label. "half-edge 2k is edge k from `from` to `to` with the left label; 2k+1 is its twin with
-- the right label"
pub record Map : Type 0 where
  pub graph : Graph
  pub labels : List ℕ

abbrev pub label : Map → ℕ → ℕ
label m h = get_or m.labels h 0

abbrev pub empty : Map
empty = record { graph = record { points = []; edges = [] }; labels = [] }

abbrev pub corner : List Vec → ℕ → Vec
corner cs v = get_or cs v nowhere

-- an edge between corners is its own carrier
abbrev pub edge_between : List Vec → ℕ → ℕ → Edge
edge_between cs a b = record { from = a; to = b; carrier = between (corner cs a) (corner cs b) }

-- ── the map that a file's bytes hold ──

-- "Mark `ZMP`, then .. version (1), vertex count V, edge count E"
abbrev pub vertex_count : List ℕ → ℕ
vertex_count s = u16 s 5

abbrev pub edges_in : List ℕ → ℕ
edges_in s = u16 s 7

-- "V vertices (x, y as signed 16-bit)": where vertex v starts
abbrev pub vertex_place : ℕ → ℕ
vertex_place v = map_head + 4 * v

abbrev pub corner_at : List ℕ → ℕ → Vec
corner_at s v = vec (signed_at 2 s (vertex_place v)) (signed_at 2 s (vertex_place v + 2))

-- "E edges (from, to, left label, right label, unsigned 16-bit)": where half-edge h has its own two bytes
abbrev pub half_place : List ℕ → ℕ → ℕ
half_place s h = vertex_place (vertex_count s) + 8 * (h / 2) + 2 * (h % 2)

abbrev pub origin_at : List ℕ → ℕ → ℕ
origin_at s h = u16 s (half_place s h)

abbrev pub label_at : List ℕ → ℕ → ℕ
label_at s h = u16 s (half_place s h + 4)

abbrev pub map_of : List ℕ → Map
map_of s =
    let cs = table (corner_at s) (vertex_count s) in
    let es = table (λ k. edge_between cs (origin_at s (2 * k)) (origin_at s (2 * k + 1))) (edges_in s) in
    record { graph = record { points = map whole cs; edges = es }; labels = table (label_at s) (2 * edges_in s) }

-- ── refusals 1 to 10 ──

-- "Length is 9 + 4V + 8E": where the edge after the last would start
abbrev pub map_length : List ℕ → ℕ
map_length s = half_place s (2 * edges_in s)

-- 1 "under 9 bytes, or mark wrong", 2 "version is not 1", 3 "V > 200 or E > 300", 4 "length differs"
abbrev pub form_faults : List ℕ → List (Option Refusal)
form_faults s =
    given 1 0 (ltb (length s) map_head || not (marked (ascii "ZMP") s 0))
    ∷ given 2 0 (not (eqb (u16 s 3) 1))
    ∷ given 3 0 (ltb map_vertices (vertex_count s) || ltb map_edges (edges_in s))
    ∷ given 4 0 (not (eqb (length s) (map_length s)))
    ∷ []

-- 5 "a coordinate beyond its range"
abbrev pub too_far : Graph → ℕ → Bool
too_far g v = ltb reach (nat_abs (point g v).X) || ltb reach (nat_abs (point g v).Y)

-- 6 "a vertex lies on one of lower number"
abbrev pub doubled : Graph → ℕ → Bool
doubled g v = the_some_below (λ u. same (point g v) (point g u)) v

-- 7 "an end names no vertex, or both ends are the same"
abbrev pub bad_ends : Graph → ℕ → Bool
bad_ends g k = let e = edge g k in let n = length g.points in
    (leb n e.from || leb n e.to) || eqb e.from e.to

abbrev pub part_faults : Graph → List (Option Refusal)
part_faults g =
    first_at 5 (too_far g) (length g.points)
    ∷ first_at 6 (doubled g) (length g.points)
    ∷ first_at 7 (bad_ends g) (edge_count g)
    ∷ []

-- 8 "an edge shares with another any point that is not an end of both"
abbrev pub clashes : Graph → ℕ → ℕ → Bool
clashes g k j = not (eqb k j) && clash (edge g k).carrier (edge g j).carrier

abbrev pub clashing : Graph → ℕ → Bool
clashing g k = the_some_below (clashes g k) (edge_count g)

-- its place: the least edge number
abbrev pub clash_place : Graph → ℕ
clash_place g = least (clashing g) (edge_count g)

-- "the other edge's number, the least one that clashes with it" (02, Ask 2)
abbrev pub clash_other : Graph → ℕ
clash_other g = least (clashes g (clash_place g)) (edge_count g)

abbrev pub clash_fault : Graph → Option Refusal
clash_fault g = beside 8 (clash_place g) (clash_other g) (the_some_below (clashing g) (edge_count g))

-- 9 "a vertex has no edge"
abbrev pub lonely : Graph → ℕ → Bool
lonely g v = not (the_some_below (leaves g v) (the_half_count g))

-- 10 "Labels disagree at a half-edge if its label differs from its follower's, or if it is the greatest-angle half-edge that makes its walk a
-- hole walk and its label differs from that of the half-edge seen west in the same map, or from 0
-- where the outside is seen"; nx is the list of followers
abbrev pub disagrees : Map → List ℕ → ℕ → Bool
disagrees m nx h =
    not (eqb (label m h) (label m (get_or nx h 0)))
    || (makes_hole m.graph nx h && not (eqb (label m h) (or_zero (label m) (hole_look m.graph nx h))))

abbrev pub net_faults : Map → List (Option Refusal)
net_faults m = let g = m.graph in let nx = followers g in
    clash_fault g
    ∷ first_at 9 (lonely g) (length g.points)
    ∷ first_at 10 (disagrees m nx) (the_half_count g)
    ∷ []

-- "each in this order"
unfoldable pub fault : List ℕ → Option Refusal
fault s = let m = map_of s in first_of (form_faults s ++ part_faults m.graph ++ net_faults m)

-- the operation on one file: "its vertex and edge counts or .. rules 1 to 10" (02, Ask 6)
abbrev pub check : List ℕ → Answer (ℕ × ℕ)
check s = answer (vertex_count s, edges_in s) (fault s)
