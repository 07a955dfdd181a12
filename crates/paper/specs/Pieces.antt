-- The overlay's graph (01, "Overlay tables"): its vertices, and the pieces of input edges with their sources, over a list of maps. Assumes nothing.
use Rattle.std.specs.Prelude.{◌&&◌, ◌||◌, ◌∷◌, ◌++◌}
use Rattle.seq.specs.Seq.{Bool, cond, List, [], map, Option, none, some, ℕ, ltb, eqb, length, get_or, select, rows, table, optional, in_order_by}
use Rattle.paper.specs.Plane.{Pt, Seg, before, crossing, on_seg}
use Rattle.paper.specs.Graph.{edge_count, point_in, no_edge, edge, Edge, Graph}
use Rattle.paper.specs.Map.{empty, Map}

-- map i of the list
abbrev pub layer : List Map → ℕ → Map
layer ms i = get_or ms i empty

-- ── vertices ──

-- where edge j of the one graph crosses edge k of the other
abbrev pub crossed_at : Graph → Graph → ℕ → ℕ → List Pt
crossed_at a b j k = optional (crossing (edge a j).carrier (edge b k).carrier)

abbrev pub crossed_by : Graph → Graph → List Pt
crossed_by a b = rows (λ j. rows (crossed_at a b j) (edge_count b)) (edge_count a)

-- the crossings of edges of two different maps
abbrev pub crossings : List Map → List Pt
crossings ms = rows (λ j. rows (λ i. crossed_by (layer ms i).graph (layer ms j).graph) j) (length ms)

-- points in order, each at its place, and nowhere if it is there already
abbrev pub the_in_order : List Pt → List Pt
the_in_order ps = in_order_by before (λ p q. q) ps

-- "Vertices stand in point order": the corners of all maps, and the crossings
abbrev pub vertices_of : List Map → List Pt
vertices_of ms = the_in_order (rows (λ i. (layer ms i).graph.points) (length ms) ++ crossings ms)

-- ── pieces ──

-- a piece between two vertices, and for each map the edge that it comes from there
pub record Piece : Type 0 where
  pub lo : ℕ
  pub hi : ℕ
  pub sources : List (Option ℕ)

-- of n maps, from edge k of map i alone
abbrev pub only : ℕ → ℕ → ℕ → List (Option ℕ)
only n i k = table (λ j. cond (eqb j i) (some k) none) n

abbrev pub merged : List (Option ℕ) → List (Option ℕ) → List (Option ℕ)
merged [] ts = ts
merged (s ∷ ss) [] = s ∷ ss
merged (none ∷ ss) (t ∷ ts) = t ∷ merged ss ts
merged (some k ∷ ss) (t ∷ ts) = some k ∷ merged ss ts

abbrev pub joined : Piece → Piece → Piece
joined a b = record { lo = a.lo; hi = a.hi; sources = merged a.sources b.sources }

-- "sorted by lower, then upper vertex number"
abbrev pub earlier : Piece → Piece → Bool
earlier a b = ltb a.lo b.lo || (eqb a.lo b.lo && ltb a.hi b.hi)

-- pieces in order: "a piece that comes from both maps stands once"
abbrev pub pieces_in_order : List Piece → List Piece
pieces_in_order ps = in_order_by earlier joined ps

-- between neighbours in a list of vertex numbers
abbrev pub links_from : List (Option ℕ) → ℕ → List ℕ → List Piece
links_from s v [] = []
links_from s v (w ∷ ws) = record { lo = v; hi = w; sources = s } ∷ links_from s w ws

abbrev pub links : List (Option ℕ) → List ℕ → List Piece
links s [] = []
links s (v ∷ vs) = links_from s v vs

-- the vertices on edge k. They stand in point order, and so do the points along an edge from its lower end
abbrev pub along : List Pt → Graph → ℕ → List ℕ
along vs g k = select (λ v. on_seg (edge g k).carrier (point_in vs v)) (length vs)

-- "the pieces of input edges between neighbouring overlay vertices on them"
abbrev pub pieces_of : List Map → List Pt → ℕ → List Piece
pieces_of ms vs i = let g = (layer ms i).graph in
    rows (λ k. links (only (length ms) i k) (along vs g k)) (edge_count g)

abbrev pub edges_of : List Map → List Pt → List Piece
edges_of ms vs = pieces_in_order (rows (pieces_of ms vs) (length ms))

-- ── the graph ──

-- the edge of an input map that a piece lies along: of the first map that it comes from
abbrev pub carrier_of : List Map → List (Option ℕ) → Seg
carrier_of [] ss = no_edge.carrier
carrier_of (m ∷ ms) [] = no_edge.carrier
carrier_of (m ∷ ms) (none ∷ ss) = carrier_of ms ss
carrier_of (m ∷ ms) (some k ∷ ss) = (edge m.graph k).carrier

-- "Half-edge 2k goes from lower to upper, 2k+1 back"
abbrev pub edge_of : List Map → Piece → Edge
edge_of ms p = record { from = p.lo; to = p.hi; carrier = carrier_of ms p.sources }

abbrev pub graph_of : List Map → List Pt → List Piece → Graph
graph_of ms vs ps = record { points = vs; edges = map (edge_of ms) ps }
