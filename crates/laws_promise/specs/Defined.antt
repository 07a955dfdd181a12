-- Demand 2 in the customer's words: what the lent tables hold after an overlay that is done (`Defined`), said of the tables' cells, the maps, and points on edges; nothing of how it is found. Over any number
-- of maps. Reading the tables; then (a) vertices, (b) edges and their sources, (c) half-edges, (d) faces, (e) zeros. The edge record (`EdgeRecords`) is of three maps; with it and the overlay file: Delivered. The
-- proof: Promised. Assumes nothing.
use Rattle.std.specs.Prelude.{◌≡◌, ◌⊎◌, ◌<◌, ◌≤◌, ◌-◌, ◌&&◌, ◌||◌, ◌+◌, ◌*◌, ◌/◌}
use Rattle.seq.specs.Seq.{Bool, true, false, cond, List, [], map, Option, none, some, ℕ, zero, suc, length, get_or, pos, table, or_zero}
use Rattle.seq.specs.Terms.{Among, Asc}
use Rattle.paper.specs.Limits.{absent}
use Rattle.paper.specs.Plane.{Pt, Vec, whole, nowhere, head, dir, before, less_angle}
use Rattle.paper.specs.Graph.{Graph, Edge, walk, point, even, goes_up}
use Rattle.paper.specs.Map.{Map, label, map_of, fault}
use Rattle.paper.specs.Pieces.{layer, carrier_of}
use Rattle.paper.specs.Tables.{Counts, Tables, vertex_width, half_width, face_width, vertex_cell, origin_of, twin_of, follower_of, predecessor_of, face_of, source_cell, face_cell}
use Rattle.paper.specs.Lent.{Lengths, lengths_of, room_in}
use Rattle.paper.specs.Record.{Source, first, second, both, third, first_third, second_third, all, edge_record}
use Rattle.laws_plane.specs.Points.{LowestP}
use Rattle.laws_plane.specs.Bounds.{Bounded}
use Rattle.laws_plane.specs.Edges.{On}
use Rattle.laws_map.specs.Keeps.{seg, edges, vertices}
use Rattle.laws_overlay.specs.Vertices.{Vertex}
use Rattle.laws_refusals.specs.Room.{Fits}
use Rattle.laws_labels.specs.Demand3.{followers_in, Agrees}
use Rattle.laws_promise.specs.Looking.{Looks}

-- ── reading the tables ──

-- the point in row v of the vertex table
abbrev pub the_point_at : Tables → ℕ → Pt
the_point_at t v = record { X = vertex_cell t v 0; Y = vertex_cell t v 1; D = vertex_cell t v 2 }

-- where half-edge h starts, and the direction in which it goes
abbrev pub the_from_at : Tables → ℕ → Pt
the_from_at t h = the_point_at t (origin_of t h)

abbrev pub way_at : Tables → ℕ → Vec
way_at t h = dir (the_from_at t h) (the_from_at t (twin_of t h))

-- k is on the walk of h: following from h comes to k
abbrev pub OnWalk : Counts → Tables → ℕ → ℕ → Type 0
OnWalk c t h k = Among k (walk (followers_in c t) h)

-- "first source + 1 or 0"
abbrev pub minus_one : ℕ → Option ℕ
minus_one zero = none
minus_one (suc k) = some k

-- source i of edge k
abbrev pub source_of : ℕ → Tables → ℕ → ℕ → Option ℕ
source_of n t k i = minus_one (source_cell n t k i)

-- the least outer half-edge of face f
abbrev pub least_of : ℕ → Tables → ℕ → ℕ
least_of n t f = face_cell n t f n

-- the graph in the tables: its points and edges, each with the input edge that it lies along
abbrev pub the_edge_in : List Map → Tables → ℕ → Edge
the_edge_in ms t k = record { from = origin_of t (2 * k); to = origin_of t (2 * k + 1); carrier = carrier_of ms (table (source_of (length ms) t k) (length ms)) }

abbrev pub graph_in : List Map → Counts → Tables → Graph
graph_in ms c t = record { points = table (the_point_at t) c.vertices; edges = table (the_edge_in ms t) c.edges }

-- ── (a) vertices ──

-- a point is in the table exactly if it is a corner of a map or the single point where edges of two maps meet (`Vertex`: `Corner`, or `Crossed` by `Touch` and `On`)
pub record VertexRows (ms : List Map) (c : Counts) (t : Tables) : Type 0 where
  pub vertex_is : (v : ℕ) → v < c.vertices → Vertex ms (the_point_at t v)
  pub vertex-there : (p : Pt) → Vertex ms p → (v : ℕ) × (v < c.vertices) × (the_point_at t v ≡ p)
  -- "Vertices stand in point order", each once
  pub in_order : (u v : ℕ) → u < v → v < c.vertices → before (the_point_at t u) (the_point_at t v) ≡ true
  pub once : (u v : ℕ) → u < c.vertices → v < c.vertices → the_point_at t u ≡ the_point_at t v → u ≡ v
  -- "divided by the greatest common divisor of the three"; "D may then reach 2,048,000,000" (02, Ask 7), and X and Y lie within 16,000·D either way
  pub lowest : (v : ℕ) → v < c.vertices → LowestP (the_point_at t v)
  pub bounded : (v : ℕ) → v < c.vertices → Bounded (the_point_at t v)
  -- no digitised corner moves
  pub corner-stays : (i v : ℕ) → i < length ms → v < vertices (layer ms i) → (u : ℕ) × (u < c.vertices) × (the_point_at t u ≡ point (layer ms i).graph v)
  -- "each with its least outgoing half-edge"
  pub least_out : (v : ℕ) → v < c.vertices → (h : ℕ) × (vertex_cell t v 3 ≡ pos h) × (h < 2 * c.edges) × (origin_of t h ≡ v) × ((r : ℕ) → r < 2 * c.edges → origin_of t r ≡ v → h ≤ r)

-- ── (b) edges ──

-- the vertices u and v are neighbours on edge k of map i: both are on it, u before v, and none between them is
pub record Near (ms : List Map) (c : Counts) (t : Tables) (i k u v : ℕ) : Type 0 where
  pub in_list : i < length ms
  pub of_map : k < edges (layer ms i)
  pub rises : u < v
  pub below : v < c.vertices
  pub on_low : On (seg (layer ms i) k) (the_point_at t u)
  pub on_high : On (seg (layer ms i) k) (the_point_at t v)
  pub none_between : (w : ℕ) → u < w → w < v → On (seg (layer ms i) k) (the_point_at t w) → ⊥

-- edge k of map i is cut into pieces that join up to it: the vertices on it, from its lower end to its upper, and between each and the next an edge that has it as source
pub record Joined (ms : List Map) (c : Counts) (t : Tables) (i k : ℕ) : Type 0 where
  pub stops : List ℕ
  pub two : 1 < length stops
  pub starts : the_point_at t (get_or stops 0 0) ≡ whole (seg (layer ms i) k).foot
  pub ends : the_point_at t (get_or stops (length stops - 1) 0) ≡ whole (head (seg (layer ms i) k))
  pub piece : (j : ℕ) → suc j < length stops → (r : ℕ) × (r < c.edges) × (origin_of t (2 * r) ≡ get_or stops j 0) × (origin_of t (2 * r + 1) ≡ get_or stops (suc j) 0) × (source_cell (length ms) t r i ≡ suc k)

pub record EdgeRows (ms : List Map) (c : Counts) (t : Tables) : Type 0 where
  -- "Edges are the pieces of input edges between neighbouring overlay vertices on them"
  pub edge_is : (k : ℕ) → k < c.edges → (i : ℕ) × (j : ℕ) × Near ms c t i j (origin_of t (2 * k)) (origin_of t (2 * k + 1))
  pub edge-there : (i j u v : ℕ) → Near ms c t i j u v → (k : ℕ) × (k < c.edges) × (origin_of t (2 * k) ≡ u) × (origin_of t (2 * k + 1) ≡ v)
  -- with exactly its sources: "whether it came from the first map, the second or both, with the edge number in each"; "a piece may come from any of the three" (02, Ask 13)
  pub source_is : (k i j : ℕ) → k < c.edges → i < length ms → source_cell (length ms) t k i ≡ suc j → Near ms c t i j (origin_of t (2 * k)) (origin_of t (2 * k + 1))
  pub source-there : (k i j : ℕ) → k < c.edges → Near ms c t i j (origin_of t (2 * k)) (origin_of t (2 * k + 1)) → source_cell (length ms) t k i ≡ suc j
  -- "sorted by lower, then upper vertex number", and so each once
  pub sorted : (k r : ℕ) → k < r → r < c.edges → (origin_of t (2 * k) < origin_of t (2 * r)) ⊎ ((origin_of t (2 * k) ≡ origin_of t (2 * r)) × (origin_of t (2 * k + 1) < origin_of t (2 * r + 1)))
  -- nothing of an input edge is lost
  pub joined : (i k : ℕ) → i < length ms → k < edges (layer ms i) → Joined ms c t i k

-- ── (c) half-edges ──

-- going clockwise from the direction a to the direction b, d lies strictly between
abbrev pub clockwise_between : Vec → Vec → Vec → Bool
clockwise_between a b d = cond (less_angle b a) (less_angle b d && less_angle d a) (less_angle d a || less_angle b d)

pub record HalfRows (c : Counts) (t : Tables) : Type 0 where
  -- "Half-edge 2k goes from lower to upper, 2k+1 back"
  pub rises : (k : ℕ) → k < c.edges → origin_of t (2 * k) < origin_of t (2 * k + 1)
  pub origin_below : (h : ℕ) → h < 2 * c.edges → origin_of t h < c.vertices
  pub twin_first : (k : ℕ) → k < c.edges → twin_of t (2 * k) ≡ 2 * k + 1
  pub twin-second : (k : ℕ) → k < c.edges → twin_of t (2 * k + 1) ≡ 2 * k
  -- "the first outgoing half-edge clockwise from its twin": it starts where h ends, and no half-edge that starts there lies strictly between; so "with one edge at p it is the twin"
  pub follower_below : (h : ℕ) → h < 2 * c.edges → follower_of t h < 2 * c.edges
  pub follows : (h : ℕ) → h < 2 * c.edges → origin_of t (follower_of t h) ≡ origin_of t (twin_of t h)
  pub first_clockwise : (h r : ℕ) → h < 2 * c.edges → r < 2 * c.edges → origin_of t r ≡ origin_of t (twin_of t h)
      → clockwise_between (way_at t (twin_of t h)) (way_at t (follower_of t h)) (way_at t r) ≡ false
  -- no two that start at one vertex go one way
  pub ways-differ : (h r : ℕ) → h < 2 * c.edges → r < 2 * c.edges → origin_of t h ≡ origin_of t r → (h ≡ r → ⊥) → (less_angle (way_at t h) (way_at t r) ≡ true) ⊎ (less_angle (way_at t r) (way_at t h) ≡ true)
  -- "The predecessor is the inverse"
  pub predecessor_below : (h : ℕ) → h < 2 * c.edges → predecessor_of t h < 2 * c.edges
  pub back : (h : ℕ) → h < 2 * c.edges → predecessor_of t (follower_of t h) ≡ h
  pub forth : (h : ℕ) → h < 2 * c.edges → follower_of t (predecessor_of t h) ≡ h
  pub face_below : (h : ℕ) → h < 2 * c.edges → face_of t h < c.faces

-- ── (d) faces ──

-- "a hole walk exactly if it holds the half-edge of greatest angle out of its own smallest vertex"
pub record Hole (c : Counts) (t : Tables) (h : ℕ) : Type 0 where
  pub maker : ℕ
  pub on : OnWalk c t h maker
  -- no half-edge of the walk starts at a smaller vertex
  pub smallest : (k : ℕ) → OnWalk c t h k → before (the_from_at t k) (the_from_at t maker) ≡ false
  -- and none that starts there has a greater angle
  pub greatest : (r : ℕ) → r < 2 * c.edges → origin_of t r ≡ origin_of t maker → less_angle (way_at t maker) (way_at t r) ≡ false

-- h is the least half-edge of its walk
abbrev pub Least : Counts → Tables → ℕ → Type 0
Least c t h = (k : ℕ) → OnWalk c t h k → h ≤ k

-- the hole walks of face f, by their least half-edges: as many as the row says
pub record Holes (ms : List Map) (c : Counts) (t : Tables) (f : ℕ) : Type 0 where
  pub leads : List ℕ
  pub rising : Asc leads
  pub counted : face_cell (length ms) t f (length ms + 1) ≡ length leads
  pub each : (h : ℕ) → Among h leads → (h < 2 * c.edges) × Least c t h × Hole c t h × (face_of t h ≡ f)
  pub all : (h : ℕ) → h < 2 * c.edges → Least c t h → Hole c t h → face_of t h ≡ f → Among h leads

-- half-edge h has the label x in map i. "If it lies along an edge of that map, the label of that edge on that side": of the half-edge of that edge which goes up where h does (h even) or down where h does
pub record LabelAlong (ms : List Map) (c : Counts) (t : Tables) (i h x : ℕ) : Type 0 where
  pub edge : ℕ
  pub half : ℕ
  pub near : Near ms c t i edge (origin_of t (2 * (h / 2))) (origin_of t (2 * (h / 2) + 1))
  pub of_edge : half / 2 ≡ edge
  pub one_way : goes_up (layer ms i).graph half ≡ even h
  pub label_is : x ≡ label (layer ms i) half

-- "otherwise the label of what is seen looking west in that map from its lower end along it", and 0 where that is the outside
pub record LabelSeen (ms : List Map) (c : Counts) (t : Tables) (i h x : ℕ) : Type 0 where
  pub off : (j : ℕ) → Near ms c t i j (origin_of t (2 * (h / 2))) (origin_of t (2 * (h / 2) + 1)) → ⊥
  pub seen : Option ℕ
  pub looks : Looks (layer ms i).graph (the_from_at t (2 * (h / 2))) (way_at t (2 * (h / 2))) seen
  pub label_is : x ≡ or_zero (label (layer ms i)) seen

abbrev pub Labelled : List Map → Counts → Tables → ℕ → ℕ → ℕ → Type 0
Labelled ms c t i h x = LabelAlong ms c t i h x ⊎ LabelSeen ms c t i h x

pub record FaceRows (ms : List Map) (c : Counts) (t : Tables) : Type 0 where
  -- "Face 0 is the outside, pair (0, 0)", of three maps (0, 0, 0), with 65,535
  pub outside-there : 0 < c.faces
  pub outside-label : (i : ℕ) → i < length ms → face_cell (length ms) t 0 i ≡ 0
  pub outside-least : least_of (length ms) t 0 ≡ absent
  -- another face holds the least half-edge of an outer walk, which has this face
  pub least_below : (f : ℕ) → 0 < f → f < c.faces → least_of (length ms) t f < 2 * c.edges
  pub least-least : (f : ℕ) → 0 < f → f < c.faces → Least c t (least_of (length ms) t f)
  pub least-outer : (f : ℕ) → 0 < f → f < c.faces → Hole c t (least_of (length ms) t f) → ⊥
  pub least-face : (f : ℕ) → 0 < f → f < c.faces → face_of t (least_of (length ms) t f) ≡ f
  -- "numbered from 1 by the walk's least half-edge number"
  pub numbered : (e f : ℕ) → 0 < e → e < f → f < c.faces → least_of (length ms) t e < least_of (length ms) t f
  -- "Each outer walk makes one face": its face is the one that holds its least half-edge
  pub outer-face : (h : ℕ) → h < 2 * c.edges → (Hole c t h → ⊥) → (0 < face_of t h) × OnWalk c t h (least_of (length ms) t (face_of t h))
  -- a hole walk: "look from its smallest vertex counting only edges strictly west. The hole belongs to the face of the half-edge seen, or to face 0"
  pub hole-face : (h : ℕ) → h < 2 * c.edges → (o : Hole c t h) → (s : Option ℕ) × Looks (graph_in ms c t) (the_from_at t o.maker) nowhere s × (face_of t h ≡ or_zero (face_of t) s)
  -- "A face holds the pair of its least outer half-edge": for each map its label there
  pub label_is : (f i : ℕ) → 0 < f → f < c.faces → i < length ms → Labelled ms c t i (least_of (length ms) t f) (face_cell (length ms) t f i)
  -- "and its count of hole walks"
  pub holes : (f : ℕ) → f < c.faces → Holes ms c t f

-- ── of three maps: the edge record ──

-- the piece between u and v comes from edge j of map i; from no edge of map i
abbrev pub From : List Map → Counts → Tables → ℕ → ℕ → ℕ → Option ℕ → Type 0
From ms c t u v i (some j) = Near ms c t i j u v
From ms c t u v i none = (j : ℕ) → Near ms c t i j u v → ⊥

-- from these edges of the first map, the second and the third, and from no others
abbrev pub Comes : List Map → Counts → Tables → ℕ → ℕ → Option ℕ → Option ℕ → Option ℕ → Type 0
Comes ms c t u v x y z = From ms c t u v 0 x × From ms c t u v 1 y × From ms c t u v 2 z

-- "whether it came from the first map, the second or both, with the edge number in each"; "a piece may come from any of the three" (02, Ask 13)
abbrev pub Says : List Map → Counts → Tables → ℕ → ℕ → Source → Type 0
Says ms c t u v (first j) = Comes ms c t u v (some j) none none
Says ms c t u v (second k) = Comes ms c t u v none (some k) none
Says ms c t u v (both j k) = Comes ms c t u v (some j) (some k) none
Says ms c t u v (third l) = Comes ms c t u v none none (some l)
Says ms c t u v (first_third j l) = Comes ms c t u v (some j) none (some l)
Says ms c t u v (second_third k l) = Comes ms c t u v none (some k) (some l)
Says ms c t u v (all j k l) = Comes ms c t u v (some j) (some k) (some l)

pub record EdgeRecords (ms : List Map) (c : Counts) (t : Tables) : Type 0 where
  -- "it is handed out by edge number"
  pub record_is : (k : ℕ) → k < c.edges → (s : Source) × (edge_record t k ≡ some (record { lower = origin_of t (2 * k); upper = origin_of t (2 * k + 1); source = s }))
      × Says ms c t (origin_of t (2 * k)) (origin_of t (2 * k + 1)) s
  -- "and a number with no edge is answered as absent"
  pub record_absent : (k : ℕ) → c.edges ≤ k → edge_record t k ≡ none

-- ── (e) "Done: places past the counts are zero" ──

pub record Zeros (n : ℕ) (c : Counts) (t : Tables) : Type 0 where
  pub vertices : (i : ℕ) → vertex_width * c.vertices ≤ i → get_or t.vertices i (pos 0) ≡ pos 0
  pub halves : (i : ℕ) → half_width * (2 * c.edges) ≤ i → get_or t.halves i 0 ≡ 0
  pub sources : (i : ℕ) → n * c.edges ≤ i → get_or t.sources i 0 ≡ 0
  pub faces : (i : ℕ) → face_width n * c.faces ≤ i → get_or t.faces i 0 ≡ 0

-- ── all ──

-- the overlay of the files, with the counts c, in tables t of the lengths l
pub record Defined (l : Lengths) (files : List (List ℕ)) (c : Counts) (t : Tables) : Type 0 where
  -- every file passes
  pub passes : (i : ℕ) → i < length files → fault (get_or files i []) ≡ none
  pub room : Fits (room_in (length files) l) c
  pub lengths : lengths_of t ≡ l
  pub vertices : VertexRows (map map_of files) c t
  pub edges : EdgeRows (map map_of files) c t
  pub halves : HalfRows c t
  pub faces : FaceRows (map map_of files) c t
  pub zeros : Zeros (length files) c t
  -- "Its pair is the two labels", and "pairs become triples" (02, Ask 13): of each half-edge, one for each map
  pub pair : ℕ → List ℕ
  pub pair_is : (h i : ℕ) → h < 2 * c.edges → i < length files → Labelled (map map_of files) c t i h (get_or (pair h) i 0)
  -- demand 3: the labels agree
  pub agrees : Agrees (length files) c t pair
