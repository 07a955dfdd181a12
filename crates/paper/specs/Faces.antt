-- The overlay of a list of maps: walks, faces and labels (01, "Overlay tables"). Assumes nothing.
use Rattle.std.specs.Prelude.{◌&&◌, ◌/◌}
use Rattle.seq.specs.Seq.{Bool, false, cond, not, List, [], Option, none, some, ℕ, zero, suc, eqb, length, get_or, count, select, table, leader, or_zero}
use Rattle.paper.specs.Graph.{the_half_count, upward, even, twin, low, followers, hole_walk, east_side, west, hole_look, Graph}
use Rattle.paper.specs.Map.{label, Map}
use Rattle.paper.specs.Pieces.{layer, vertices_of, edges_of, graph_of, Piece}

-- ── walks ──

-- a graph with, of each half-edge, its follower, the least half-edge of its walk, and whether that is a hole walk
pub record Walks : Type 0 where
  pub graph : Graph
  pub next : List ℕ
  pub lead : List ℕ
  pub hole : List Bool

abbrev pub walks_of : Graph → Walks
walks_of g = let nx = followers g in let n = the_half_count g in
    record { graph = g; next = nx; lead = table (λ h. leader nx h) n; hole = table (hole_walk g nx) n }

abbrev pub lead_at : Walks → ℕ → ℕ
lead_at w h = get_or w.lead h 0

abbrev pub hole_at : Walks → ℕ → Bool
hole_at w h = get_or w.hole h false

-- h is the least half-edge of a hole walk; of an outer walk
abbrev pub leads_hole : Walks → ℕ → Bool
leads_hole w h = eqb (lead_at w h) h && hole_at w h

abbrev pub leads_outer : Walks → ℕ → Bool
leads_outer w h = eqb (lead_at w h) h && not (hole_at w h)

-- ── faces ──

-- the face of half-edge h: "Each outer walk makes one face, numbered from 1 by the walk's least half-edge number"; a hole
-- "belongs to the face of the half-edge seen, or to face 0". Each look goes to a walk with a smaller smallest vertex, so that the number of
-- vertices bounds the looks
abbrev pub face_in : Walks → ℕ → ℕ → ℕ
face_in w zero h = 0
face_in w (suc n) h =
    let r = or_zero (face_in w n) (hole_look w.graph w.next h) in
    let k = suc (count (leads_outer w) (lead_at w h)) in
    cond (hole_at w h) r k

-- ── labels ──

-- "if it lies along an edge of that map, the label of that edge on that side; otherwise the label of what is seen looking west in that map from
-- its lower end along it": of half-edge h of g, in map m
abbrev pub label_in : Map → Graph → ℕ → Option ℕ → ℕ
label_in m g h (some k) = let down = east_side m.graph k in label m (cond (even h) (twin down) down)
label_in m g h none = or_zero (label m) (west m.graph (low g (h / 2)) (upward g (h / 2)))

-- ── the overlay ──

-- its pieces; its walks; the face of each half-edge; of each face other than 0 the least outer half-edge
pub record Overlay : Type 0 where
  pub pieces : List Piece
  pub walks : Walks
  pub face : List ℕ
  pub outers : List ℕ

abbrev pub overlay_by : List Piece → Walks → Overlay
overlay_by ps w = let n = the_half_count w.graph in record {
  pieces = ps;
  walks = w;
  face = table (face_in w (length w.graph.points)) n;
  outers = select (leads_outer w) n;
}

unfoldable pub overlay_of : List Map → Overlay
overlay_of ms =
    let vs = vertices_of ms in
    let ps = edges_of ms vs in
    overlay_by ps (walks_of (graph_of ms vs ps))

abbrev pub net : Overlay → Graph
net o = o.walks.graph

abbrev pub sources_of : Overlay → ℕ → List (Option ℕ)
sources_of o k = (get_or o.pieces k (record { lo = 0; hi = 0; sources = [] })).sources

-- "Its pair is the two labels": of half-edge h, one for each map
abbrev pub labels_of : List Map → Overlay → ℕ → List ℕ
labels_of ms o h = table (λ i. label_in (layer ms i) (net o) h (get_or (sources_of o (h / 2)) i none)) (length ms)

-- "its count of hole walks"
abbrev pub holes_of : Overlay → ℕ → ℕ
holes_of o f = count (λ h. leads_hole o.walks h && eqb (get_or o.face h 0) f) (the_half_count (net o))
