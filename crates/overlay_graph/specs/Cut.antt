-- The overlay's vertices and edges in tables with one row more than the overlay may have: a record of lists, which contracts name and no function holds. In order:
-- the tables of the maps' own vertices and edges; the overlay of any points and pieces that stand in such tables; what is asked of them so that walks, faces and
-- labels can be found. Assumes nothing.
use Rattle.std.specs.Prelude.{◌≡◌, ◌≤◌, ◌<◌, ◌*◌}
use Rattle.seq.specs.Seq.{List, none, some, ℕ, length, get_or, ℤ}
use Rattle.seq.specs.Terms.{Among}
use Rattle.paper.specs.Limits.{overlay_vertices, overlay_edges}
use Rattle.paper.specs.Plane.{Pt}
use Rattle.paper.specs.Graph.{edge_count, the_half_count, even, goes_up}
use Rattle.paper.specs.Map.{Map}
use Rattle.paper.specs.Pieces.{layer, vertices_of, edges_of, graph_of}
use Rattle.paper.specs.Faces.{Overlay, walks_of, overlay_by, net, sources_of, labels_of}
use Rattle.laws_graph.specs.Plane.{Plane}
use Rattle.laws_graph.specs.Walks.{Along}
use Rattle.plane.specs.Bounds.{Near}
use Rattle.overlay_cut.specs.Points.{points_of}
use Rattle.overlay_cut.specs.PieceRows.{piece_width, pieces_in}

-- the vertices, rows of X, Y, D and a spare cell; the edges, rows of lower, upper, and for each map the source + 1 or 0
pub record Cut : Type 0 where
  pub vertices : ℕ
  pub points : List ℤ
  pub edges : ℕ
  pub pieces : List ℕ

-- of the counts and tables that a function has
abbrev pub cut_by : ℕ → List ℤ → ℕ → List ℕ → Cut
cut_by n ps e pieces = record { vertices = n; points = ps; edges = e; pieces = pieces }

-- of the maps ms: the vertices, or that there are more than there may be; then, if the vertices are there, the edges in the same way
pub record CutOf (ms : List Map) (c : Cut) : Type 0 where
  pub vertices-are : c.vertices ≤ overlay_vertices → points_of c.points c.vertices ≡ vertices_of ms
  pub vertices_over : overlay_vertices < c.vertices → overlay_vertices < length (vertices_of ms)
  pub edges_are : c.vertices ≤ overlay_vertices → c.edges ≤ overlay_edges → pieces_in c.pieces c.edges ≡ edges_of ms (vertices_of ms)
  pub edges_over : c.vertices ≤ overlay_vertices → overlay_edges < c.edges → overlay_edges < length (edges_of ms (vertices_of ms))

-- ── any points and pieces ──

-- the overlay that 01's definitions make of the points and pieces in c: those of the maps ms, or what is left of them (02, Ask 12)
unfoldable pub overlay_in : List Map → Cut → Overlay
overlay_in ms c =
    let ps = pieces_in c.pieces c.edges in
    overlay_by ps (walks_of (graph_of ms (points_of c.points c.vertices) ps))

-- what walks, faces and labels of an overlay ask: its graph is plane, "Half-edge 2k goes from lower to upper, 2k+1 back", its points are within 01's bounds, a
-- source is an edge of its map, and half-edges of one walk have the same labels
pub record Drawable (ms : List Map) (o : Overlay) : Type 0 where
  pub plane : Plane (net o)
  pub goes : (h : ℕ) → h < the_half_count (net o) → goes_up (net o) h ≡ even h
  pub near : (p : Pt) → Among p (net o).points → Near p
  pub sources : (i k r : ℕ) → i < length ms → k < edge_count (net o) → get_or (sources_of o k) i none ≡ some r → r < edge_count (layer ms i).graph
  pub labels : (h k : ℕ) → h < the_half_count (net o) → Along (net o) h k → labels_of ms o h ≡ labels_of ms o k

-- the points and pieces in c make such an overlay, within 01's limits, and have their rows
pub record DrawableCut (ms : List Map) (c : Cut) : Type 0 where
  pub few_vertices : c.vertices ≤ overlay_vertices
  pub few_edges : c.edges ≤ overlay_edges
  pub points_long : 4 * c.vertices ≤ length c.points
  pub pieces_long : piece_width * c.edges ≤ length c.pieces
  pub drawable : Drawable ms (overlay_in ms c)
