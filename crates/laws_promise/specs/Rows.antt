-- A plane graph of pieces of maps (`Pieced`): the overlay's graph is one, and so is what is left of it when cells are melted together (02, Ask 12). And what lent tables hold of it, cell by cell (`Rows`): from the tables
-- of the definition with zeros past them (`padded-rows`, `rows-zeros`). What Promised says of half-edges and faces is proved from this, so that it holds of melted tables too. Assumes nothing.
use Rattle.std.specs.Prelude.{◌≡◌, refl, ◌<◌, ◌≤◌, ◌+◌, ◌*◌, ◌-◌}
use Rattle.std.proofs.Common.{sym, ◌∙◌, subst, mul-suc, mul-le-mul_left, arith, length-append}
use Rattle.std.proofs.Math.Decide.{dec_lt}
use Rattle.std.proofs.Math.ListN.{get_or-eq_default}
use Rattle.std.proofs.lemmas.List.{length-replicate}
use Rattle.seq.specs.Seq.{List, ℕ, suc, length, get_or, pos, select, replicate, position, padded}
use Rattle.seq.specs.Table.{table_at}
use Rattle.seq.specs.Wiped.{padded_at, padded_past}
use Rattle.paper.specs.Graph.{Graph, point, edge_count, the_half_count, edge, even, goes_up, twin, origin, leaves, follower, followers}
use Rattle.paper.specs.Map.{Map}
use Rattle.paper.specs.Pieces.{Piece, edge_of}
use Rattle.paper.specs.Faces.{Overlay, walks_of, leads_outer, face_in, overlay_by, holes_of}
use Rattle.paper.specs.Tables.{Counts, Tables, vertex_width, half_width, face_width, vertex_cell, half_cell, source_cell, face_cell, origin_of, twin_of, follower_of, predecessor_of, least_half, the_plus_one, counts_of, tables_of}
use Rattle.paper.specs.Tables as T
use Rattle.paper.specs.Lent.{Lengths, padded_tables}
use Rattle.laws_graph.specs.Plane.{Plane}
use Rattle.laws_graph.specs.Nearest.{Clear}
use Rattle.laws_graph.specs.Follow.{followers_at}
use Rattle.laws_graph.specs.Faces.{face_of}
use Rattle.laws_overlay.specs.Sources.{source_at}
use Rattle.laws_overlay.specs.Pieces.{Sourced, piece_at}
use Rattle.laws_overlay.specs.Cells.{vertex-cell, half-cell, source-cell, label-cell, least-cell, holes-cell, face_labels, face_half, vertices_long, halves_long, sources_long, faces_long}
use Rattle.laws_promise.specs.Defined.{the_point_at, Zeros}

pub record Pieced (ms : List Map) (ps : List Piece) (g : Graph) : Type 0 where
  pub plane : Plane g
  -- no two edges share a stretch
  pub clear : Clear g
  -- "Half-edge 2k goes from lower to upper, 2k+1 back"
  pub goes : (h : ℕ) → h < the_half_count g → goes_up g h ≡ even h
  -- its edges are the pieces, each with exactly the edges of the maps that it runs along between neighbouring vertices
  pub edge_is : (k : ℕ) → k < edge_count g → edge g k ≡ edge_of ms (piece_at ps k)
  pub sourced : (k : ℕ) → k < edge_count g → Sourced ms g.points (piece_at ps k)

pub record Rows (ms : List Map) (ps : List Piece) (g : Graph) (c : Counts) (t : Tables) : Type 0 where
  pub vertices-are : c.vertices ≡ length g.points
  pub edges_are : c.edges ≡ edge_count g
  pub faces-are : c.faces ≡ suc (length (select (leads_outer (walks_of g)) (the_half_count g)))
  pub point_is : (v : ℕ) → v < c.vertices → the_point_at t v ≡ point g v
  pub out_is_lem : (v : ℕ) → v < c.vertices → vertex_cell t v 3 ≡ pos (least_half (leaves g v) (the_half_count g))
  pub origin_at_lem : (h : ℕ) → h < 2 * c.edges → origin_of t h ≡ origin g h
  pub twin_at : (h : ℕ) → h < 2 * c.edges → twin_of t h ≡ twin h
  pub follower_at_lem : (h : ℕ) → h < 2 * c.edges → follower_of t h ≡ follower g h
  pub predecessor_at : (h : ℕ) → h < 2 * c.edges → predecessor_of t h ≡ position h (followers g)
  pub face_at_lem : (h : ℕ) → h < 2 * c.edges → T.face_of t h ≡ face_of g h
  pub source_at_lem : (k i : ℕ) → k < c.edges → i < length ms → source_cell (length ms) t k i ≡ the_plus_one (source_at (piece_at ps k).sources i)
  pub label_at_lem : (f i : ℕ) → f < c.faces → i < length ms → face_cell (length ms) t f i ≡ get_or (face_labels ms (overlay_by ps (walks_of g)) f) i 0
  pub least_at : (f : ℕ) → f < c.faces → face_cell (length ms) t f (length ms) ≡ face_half ms (overlay_by ps (walks_of g)) f
  pub holes_at : (f : ℕ) → f < c.faces → face_cell (length ms) t f (length ms + 1) ≡ holes_of (overlay_by ps (walks_of g)) f

-- cell j of row i is among those of m rows
in_rows : (w m i j : ℕ) → i < m → j < w → w * i + j < w * m
in_rows w m i j a b = omega (arith, mul-suc w i, mul-le-mul_left w a)

-- past the list a cell is zero, in the table or past its end
module _ {A : Type 0} (z : A) where
  padded-zero : (n i : ℕ) (xs : List A) → length xs ≤ i → get_or (padded z n xs) i z ≡ z
  padded-zero n i xs h =
      elim (dec_lt i n) [
        | yes l ↦ padded_past z n i xs z h l
        | no l ↦ get_or-eq_default (padded z n xs) z (omega (arith, length-append xs (replicate (n - length xs) z), length-replicate (n - length xs) z))
      ]

module _ (ms : List Map) (ps : List Piece) (g : Graph) (N : Pieced ms ps g) (l : Lengths) where
  abbrev o : Overlay
  o = overlay_by ps (walks_of g)

  abbrev made : Tables
  made = tables_of ms (overlay_by ps (walks_of g))

  abbrev t : Tables
  t = padded_tables l (tables_of ms (overlay_by ps (walks_of g)))

  abbrev n : ℕ
  n = length ms

  -- a row of sources has a cell for each map
  wide : (k : ℕ) → k < edge_count g → length (piece_at ps k).sources ≡ length ms
  wide k a = (N.sourced k a).width

  -- ── up to the counts each cell is that of the definition's tables ──

  vertex_at_lem : (v j : ℕ) → v < length g.points → j < vertex_width → vertex_cell t v j ≡ get_or (T.vertex_row g v) j (pos 0)
  vertex_at_lem v j a b =
      padded_at (pos 0) l.vertices (vertex_width * v + j) made.vertices (pos 0)
      (subst (λ (z : ℕ). vertex_width * v + j < z) (sym (vertices_long ms o)) (in_rows vertex_width (length g.points) v j a b)) ∙ vertex-cell ms o v j a b

  half_at : (h j : ℕ) → h < the_half_count g → j < half_width → half_cell t h j ≡ get_or (T.half_row o h) j 0
  half_at h j a b =
      padded_at 0 l.halves (half_width * h + j) made.halves 0
      (subst (λ (z : ℕ). half_width * h + j < z) (sym (halves_long ms o)) (in_rows half_width (the_half_count g) h j a b)) ∙ half-cell ms o h j a b

  source_in : (k i : ℕ) → k < edge_count g → i < n → source_cell n t k i ≡ the_plus_one (source_at (piece_at ps k).sources i)
  source_in k i a b =
      padded_at 0 l.sources (n * k + i) made.sources 0
      (subst (λ (z : ℕ). n * k + i < z) (sym (sources_long ms o wide)) (in_rows n (edge_count g) k i a b)) ∙ source-cell ms o wide k i a b

  face_in_lem : (f j : ℕ) → f < (counts_of o).faces → j < face_width n → face_cell n t f j ≡ face_cell n made f j
  face_in_lem f j a b =
      padded_at 0 l.faces (face_width n * f + j) made.faces 0
      (subst (λ (z : ℕ). face_width n * f + j < z) (sym (faces_long ms o)) (in_rows (face_width n) (counts_of o).faces f j a b))

  pub padded-rows : Rows ms ps g (counts_of (overlay_by ps (walks_of g))) (padded_tables l (tables_of ms (overlay_by ps (walks_of g))))
  padded-rows = record {
    vertices-are = refl;
    edges_are = refl;
    faces-are = refl;
    point_is = λ v a i. record { X = vertex_at_lem v 0 a (omega arith) i; Y = vertex_at_lem v 1 a (omega arith) i; D = vertex_at_lem v 2 a (omega arith) i };
    out_is_lem = λ v a. vertex_at_lem v 3 a (omega arith);
    origin_at_lem = λ h a. half_at h 0 a (omega arith);
    twin_at = λ h a. half_at h 1 a (omega arith);
    follower_at_lem = λ h a. half_at h 2 a (omega arith) ∙ followers_at g N.plane h a;
    predecessor_at = λ h a. half_at h 3 a (omega arith);
    face_at_lem = λ h a. half_at h 4 a (omega arith) ∙ table_at (face_in (walks_of g) (length g.points)) (the_half_count g) h 0 a;
    source_at_lem = source_in;
    label_at_lem = λ f i a b. face_in_lem f i a (omega arith) ∙ label-cell ms o f i a b;
    least_at = λ f a. face_in_lem f n a (omega arith) ∙ least-cell ms o f a;
    holes_at = λ f a. face_in_lem f (n + 1) a (omega arith) ∙ holes-cell ms o f a;
  }

  -- ── past them all is zero ──

  pub rows-zeros : Zeros (length ms) (counts_of (overlay_by ps (walks_of g))) (padded_tables l (tables_of ms (overlay_by ps (walks_of g))))
  rows-zeros = record {
    vertices = λ i a. padded-zero (pos 0) l.vertices i made.vertices (subst (λ (z : ℕ). z ≤ i) (sym (vertices_long ms o)) a);
    halves = λ i a. padded-zero 0 l.halves i made.halves (subst (λ (z : ℕ). z ≤ i) (sym (halves_long ms o)) a);
    sources = λ i a. padded-zero 0 l.sources i made.sources (subst (λ (z : ℕ). z ≤ i) (sym (sources_long ms o wide)) a);
    faces = λ i a. padded-zero 0 l.faces i made.faces (subst (λ (z : ℕ). z ≤ i) (sym (faces_long ms o)) a);
  }
