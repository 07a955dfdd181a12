-- An overlay's tables thinned (02, Ask 12), over the tables that the code has: its vertices and edges, the face of each half-edge, and the labels of each face, a row for each face
-- and in it a cell for each map. Which edges have a label that differs on their two sides, which vertices are the ends of those, and what the thinned tables hold: paper's
-- combinators over the tables. Assumes nothing.
use Rattle.std.specs.Prelude.{◌≡◌, ◌≤◌, ◌<◌, ◌∷◌, ◌+◌, ◌*◌}
use Rattle.seq.specs.Seq.{Bool, cond, not, List, map, ℕ, eqb, ltb, length, get_or, cell, count, select, the_some_below, table}
use Rattle.paper.specs.Limits.{maps, overlay_vertices, overlay_edges}
use Rattle.paper.specs.Pieces.{Piece}
use Rattle.paper.specs.Melt.{is_end, afresh}
use Rattle.graph.specs.Flat.{point_width, the_point_at}
use Rattle.overlay_cut.specs.Points.{points_of}
use Rattle.overlay_cut.specs.PieceRows.{piece_width, piece, piece_at, pieces_in}
use Rattle.overlay_cut.specs.Net.{the_source_in}
use Rattle.overlay_graph.specs.Cut.{Cut}

-- ── which edges stay ──

-- some label of the faces f and g differs
abbrev pub differ_in : List ℕ → ℕ → ℕ → Bool
differ_in triples f g = the_some_below (λ i. not (eqb (cell 0 maps triples f i) (cell 0 maps triples g i))) maps

-- of the faces on the two sides of edge k
abbrev pub separates_in : List ℕ → List ℕ → ℕ → Bool
separates_in face triples k = differ_in triples (get_or face (2 * k) 0) (get_or face (2 * k + 1) 0)

-- of e edges, those that stay
abbrev pub kept_in : List ℕ → List ℕ → List ℕ → ℕ → List Piece
kept_in pieces face triples e = map (piece_at pieces) (select (separates_in face triples) e)

-- ── which vertices stay ──

-- a mark, as it is stored; what is marked
abbrev pub flag : Bool → ℕ
flag b = cond b 1 0

abbrev pub marked : List ℕ → ℕ → Bool
marked marks v = ltb 0 (get_or marks v 0)

-- ── a piece between new numbers ──

-- as a row, with its sources as they were
abbrev pub moved_row : List ℕ → List ℕ → ℕ → List ℕ
moved_row pieces numbers k =
    get_or numbers (piece_at pieces k).lo 0 ∷ get_or numbers (piece_at pieces k).hi 0 ∷ table (the_source_in pieces k) maps

abbrev pub moved_piece : List ℕ → List ℕ → ℕ → Piece
moved_piece pieces numbers k = let p = piece_at pieces k in piece (get_or numbers p.lo 0) (get_or numbers p.hi 0) p.sources

-- ── what the code reads ──

-- the faces of edge k and their labels
pub record Sides (face triples : List ℕ) (k : ℕ) : Type 0 where
  pub long : 2 * k + 2 ≤ length face
  pub left : maps * get_or face (2 * k) 0 + maps ≤ length triples
  pub right : maps * get_or face (2 * k + 1) 0 + maps ≤ length triples

-- the row of edge k, with ends below n
pub record Ends (pieces : List ℕ) (n k : ℕ) : Type 0 where
  pub row : piece_width * k + piece_width ≤ length pieces
  pub lower : (piece_at pieces k).lo < n
  pub upper : (piece_at pieces k).hi < n

-- e edges
pub record EdgesIn (pieces face triples : List ℕ) (n e : ℕ) : Type 0 where
  pub sides : (k : ℕ) → k < e → Sides face triples k
  pub ends : (k : ℕ) → k < e → Ends pieces n k

-- an overlay that can be thinned: counts within 01's limits, and numbers that name rows of the tables
pub record Thinnable (c : Cut) (face triples : List ℕ) : Type 0 where
  pub few_vertices : c.vertices ≤ overlay_vertices
  pub few_edges : c.edges ≤ overlay_edges
  pub points_long : point_width * c.vertices ≤ length c.points
  pub edges_in_lem : EdgesIn c.pieces face triples c.vertices c.edges

-- ── what comes out ──

-- d has the edges of c that stay, in their order, and the vertices that are an end of one, "numbered afresh"
pub record Thinned (c : Cut) (face triples : List ℕ) (d : Cut) : Type 0 where
  pub vertices_is : d.vertices ≡ count (is_end (kept_in c.pieces face triples c.edges)) c.vertices
  pub edges_is : d.edges ≡ count (separates_in face triples) c.edges
  pub points-are : points_of d.points d.vertices ≡ map (the_point_at c.points) (select (is_end (kept_in c.pieces face triples c.edges)) c.vertices)
  pub pieces_are : pieces_in d.pieces d.edges ≡ map (afresh (is_end (kept_in c.pieces face triples c.edges))) (kept_in c.pieces face triples c.edges)
