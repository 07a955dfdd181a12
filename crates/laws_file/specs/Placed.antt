-- Where each number of an overlay file stands, over any version's layout: the file stands at the start of a list of bytes exactly where its mark, its counts and the
-- fields of every vertex, edge and face stand at their places (`file-placed`, `placed-file`). And how long it is. Assumes nothing.
use Rattle.std.specs.Prelude.{◌≡◌, ◌<◌, ◌∷◌, ◌++◌, ◌+◌, ◌*◌}
use Rattle.std.proofs.Common.{◌∙◌, arith}
use Rattle.std.proofs.Math.ListN.{length-append}
use Rattle.seq.specs.Seq.{List, [], ℕ, zero, suc, length, get_or, rows, table, gather}
use Rattle.seq.specs.Rows.{length-rows}
use Rattle.seq.specs.Table.{length-table, table_at}
use Rattle.paper.specs.Limits.{overlay_head, denominator_bytes}
use Rattle.paper.specs.Bytes.{ascii, le, le_signed}
use Rattle.paper.specs.Tables.{face_width, vertex_cell, follower_of, face_of, source_cell, face_cell, Counts, Tables}
use Rattle.paper.specs.Ovfile.{Layout, vertex_size, edge_size, face_size, edges_at, faces_at, file_length, vertex_bytes, edge_fields, face_fields, overlay_file}
use Rattle.laws_file.specs.Bytes.{Stands, length-le_signed}
use Rattle.laws_file.specs.Stands.{front-stands, back_stands, both_stand, row-stands, rows-stand, field-stands, fields-stand, length_fields}

-- where vertex v, edge k and face f start
abbrev pub vertex_at : Layout → ℕ → ℕ
vertex_at l v = overlay_head + vertex_size l * v

abbrev pub the_edge_at : Layout → Counts → ℕ → ℕ
the_edge_at l c k = edges_at l c + edge_size l * k

abbrev pub face_at : Layout → Counts → ℕ → ℕ
face_at l c f = faces_at l c + face_size l * f

-- how many 16-bit numbers an edge has, of n maps
abbrev pub edge_width : ℕ → ℕ
edge_width n = n + 6

-- every number of the file stands at its place in s
pub record Placed (version : ℕ) (l : Layout) (c : Counts) (t : Tables) (s : List ℕ) : Type 0 where
  pub mark : Stands s 0 (ascii "ZOV")
  pub version_at : Stands s 3 (le 2 version)
  pub vertices_at : Stands s 5 (le 2 c.vertices)
  pub edges_at_lem : Stands s 7 (le 2 c.edges)
  pub faces_at_lem : Stands s 9 (le 2 c.faces)
  pub x_at : (v : ℕ) → v < c.vertices → Stands s (vertex_at l v) (le_signed l.coordinate (vertex_cell t v 0))
  pub y_at : (v : ℕ) → v < c.vertices → Stands s (vertex_at l v + l.coordinate) (le_signed l.coordinate (vertex_cell t v 1))
  pub d_at : (v : ℕ) → v < c.vertices → Stands s (vertex_at l v + 2 * l.coordinate) (le_signed denominator_bytes (vertex_cell t v 2))
  pub edge_at : (k j : ℕ) → k < c.edges → j < edge_width l.maps → Stands s (the_edge_at l c k + 2 * j) (le 2 (get_or (edge_fields l.maps t k) j 0))
  pub face_at_lem : (f j : ℕ) → f < c.faces → j < face_width l.maps → Stands s (face_at l c f + 2 * j) (le 2 (face_cell l.maps t f j))

module _ (l : Layout) (t : Tables) where
  abbrev x_bytes : ℕ → List ℕ
  x_bytes v = le_signed l.coordinate (vertex_cell t v 0)

  abbrev y_bytes : ℕ → List ℕ
  y_bytes v = le_signed l.coordinate (vertex_cell t v 1)

  abbrev d_bytes : ℕ → List ℕ
  d_bytes v = le_signed denominator_bytes (vertex_cell t v 2)

  -- ── how long each part is ──

  xy_long : (v : ℕ) → length (x_bytes v ++ y_bytes v) ≡ 2 * l.coordinate
  xy_long v = omega (arith, length-append (x_bytes v) (y_bytes v), length-le_signed l.coordinate (vertex_cell t v 0), length-le_signed l.coordinate (vertex_cell t v 1))

  pub length-vertex : (v : ℕ) → length (vertex_bytes l t v) ≡ vertex_size l
  length-vertex v = length-append (x_bytes v ++ y_bytes v) (d_bytes v) ∙ omega (arith, xy_long v, length-le_signed denominator_bytes (vertex_cell t v 2))

  pub length-edge-fields : (k : ℕ) → length (edge_fields l.maps t k) ≡ edge_width l.maps
  length-edge-fields k =
      let n = l.maps in
      let rest : List ℕ = follower_of t (2 * k) ∷ follower_of t (2 * k + 1) ∷ face_of t (2 * k) ∷ face_of t (2 * k + 1) ∷ [] in
      omega (arith, length-append (table (source_cell n t k) n) rest, length-table (source_cell n t k) n)

  pub length-edge : (k : ℕ) → length (gather (le 2) (edge_fields l.maps t k)) ≡ edge_size l
  length-edge k = omega (arith, length_fields [] 2 (edge_fields l.maps t k), length-edge-fields k)

  pub length-face-fields : (f : ℕ) → length (face_fields l.maps t f) ≡ face_width l.maps
  length-face-fields f = length-table (face_cell l.maps t f) (face_width l.maps)

  pub length-face : (f : ℕ) → length (gather (le 2) (face_fields l.maps t f)) ≡ face_size l
  length-face f = omega (arith, length_fields [] 2 (face_fields l.maps t f), length-face-fields f)

module _ (version : ℕ) (l : Layout) (c : Counts) (t : Tables) where
  abbrev head_fields : List ℕ
  head_fields = version ∷ c.vertices ∷ c.edges ∷ c.faces ∷ []

  abbrev edge_row : ℕ → List ℕ
  edge_row k = gather (le 2) (edge_fields l.maps t k)

  abbrev face_row : ℕ → List ℕ
  face_row f = gather (le 2) (face_fields l.maps t f)

  -- the file as far as the vertices, the edges and the faces
  abbrev to_vertices : List ℕ
  to_vertices = ascii "ZOV" ++ gather (le 2) head_fields

  abbrev to_edges : List ℕ
  to_edges = to_vertices ++ rows (vertex_bytes l t) c.vertices

  abbrev to_faces : List ℕ
  to_faces = to_edges ++ rows edge_row c.edges

  to_edges_lem : 0 + length to_edges ≡ edges_at l c
  to_edges_lem = omega (arith, length-append to_vertices (rows (vertex_bytes l t) c.vertices), length-rows (vertex_size l) (vertex_bytes l t) c.vertices (λ v b. length-vertex l t v))

  to_faces_lem : 0 + length to_faces ≡ faces_at l c
  to_faces_lem = omega (arith, length-append to_edges (rows edge_row c.edges), to_edges_lem, length-rows (edge_size l) edge_row c.edges (λ k b. length-edge l t k))

  -- "Length is 11 + 14 per vertex + 16 per edge + 8 per face"
  pub length-file : length (overlay_file version l c t) ≡ file_length l c
  unfolding overlay_file
  length-file = length-append to_faces (rows face_row c.faces) ∙ omega (arith, to_faces_lem, length-rows (face_size l) face_row c.faces (λ f b. length-face l t f))

  module _ (s : List ℕ) where
    -- ── a file's numbers stand at their places ──

    module _ (h : Stands s 0 to_faces) where
      toward-edges : Stands s 0 to_edges
      toward-edges = front-stands s 0 to_edges (rows edge_row c.edges) h

      toward-vertices : Stands s 0 to_vertices
      toward-vertices = front-stands s 0 to_vertices (rows (vertex_bytes l t) c.vertices) toward-edges

      head_at : (j : ℕ) → j < 4 → Stands s (3 + 2 * j) (le 2 (get_or head_fields j 0))
      head_at j m = field-stands s 2 head_fields 3 j m (back_stands s 0 (ascii "ZOV") (gather (le 2) head_fields) toward-vertices)

      module _ (v : ℕ) (b : v < c.vertices) where
        vertex_at_lem : Stands s (vertex_at l v) (vertex_bytes l t v)
        vertex_at_lem = row-stands s (vertex_size l) (vertex_bytes l t) overlay_head c.vertices v (λ i q. length-vertex l t i) b (back_stands s 0 to_vertices (rows (vertex_bytes l t) c.vertices) toward-edges)

        xy_at : Stands s (vertex_at l v) (x_bytes l t v ++ y_bytes l t v)
        xy_at = front-stands s (vertex_at l v) (x_bytes l t v ++ y_bytes l t v) (d_bytes l t v) vertex_at_lem

      edge-row_at : (k : ℕ) → k < c.edges → Stands s (the_edge_at l c k) (edge_row k)
      edge-row_at k b = row-stands s (edge_size l) edge_row (edges_at l c) c.edges k (λ i q. length-edge l t i) b (rw to_edges_lem at (back_stands s 0 to_edges (rows edge_row c.edges) h))

    pub file-placed : Stands s 0 (overlay_file version l c t) → Placed version l c t s
    unfolding overlay_file
    file-placed h =
        let r = front-stands s 0 to_faces (rows face_row c.faces) h in
        let q = rw to_faces_lem at (back_stands s 0 to_faces (rows face_row c.faces) h) in
        record {
          mark = front-stands s 0 (ascii "ZOV") (gather (le 2) head_fields) (toward-vertices r);
          version_at = head_at r 0 (omega arith);
          vertices_at = head_at r 1 (omega arith);
          edges_at_lem = head_at r 2 (omega arith);
          faces_at_lem = head_at r 3 (omega arith);
          x_at = λ v b. front-stands s (vertex_at l v) (x_bytes l t v) (y_bytes l t v) (xy_at r v b);
          y_at = λ v b. rw (length-le_signed l.coordinate (vertex_cell t v 0)) at (back_stands s (vertex_at l v) (x_bytes l t v) (y_bytes l t v) (xy_at r v b));
          d_at = λ v b. rw (xy_long l t v) at (back_stands s (vertex_at l v) (x_bytes l t v ++ y_bytes l t v) (d_bytes l t v) (vertex_at_lem r v b));
          edge_at = λ k j b m. field-stands s 2 (edge_fields l.maps t k) (the_edge_at l c k) j (rw (length-edge-fields l t k) m) (edge-row_at r k b);
          face_at_lem = λ f j b m. rw (table_at (face_cell l.maps t f) (face_width l.maps) j 0 m) at (field-stands s 2 (face_fields l.maps t f) (face_at l c f) j (rw (length-face-fields l t f) m)
              (row-stands s (face_size l) face_row (faces_at l c) c.faces f (λ i p. length-face l t i) b q));
        }

    -- ── and where they stand there, the file does ──

    module _ (P : Placed version l c t s) where
      head-stands : (j : ℕ) → j < 4 → Stands s (3 + 2 * j) (le 2 (get_or head_fields j 0))
      head-stands zero m = P.version_at
      head-stands (suc zero) m = P.vertices_at
      head-stands (suc (suc zero)) m = P.edges_at_lem
      head-stands (suc (suc (suc zero))) m = P.faces_at_lem
      head-stands (suc (suc (suc (suc j)))) m = absurd (omega arith)

      vertex-stands : (v : ℕ) → v < c.vertices → Stands s (vertex_at l v) (vertex_bytes l t v)
      vertex-stands v b =
          both_stand s (vertex_at l v) (x_bytes l t v ++ y_bytes l t v) (d_bytes l t v)
          (both_stand s (vertex_at l v) (x_bytes l t v) (y_bytes l t v) (P.x_at v b) (rw (length-le_signed l.coordinate (vertex_cell t v 0)) (P.y_at v b)))
          (rw (xy_long l t v) (P.d_at v b))

      edge-stands : (k : ℕ) → k < c.edges → Stands s (the_edge_at l c k) (edge_row k)
      edge-stands k b = fields-stand s 2 (edge_fields l.maps t k) (the_edge_at l c k) (λ j m. P.edge_at k j b (rw (length-edge-fields l t k) at m))

      face-stands : (f : ℕ) → f < c.faces → Stands s (face_at l c f) (face_row f)
      face-stands f b =
          fields-stand s 2 (face_fields l.maps t f) (face_at l c f)
          (λ j m. let q : j < face_width l.maps = rw (length-face-fields l t f) at m in rw (table_at (face_cell l.maps t f) (face_width l.maps) j 0 q) (P.face_at_lem f j b q))

      pub placed-file : Stands s 0 (overlay_file version l c t)
      unfolding overlay_file
      placed-file =
          both_stand s 0 to_faces (rows face_row c.faces)
          (both_stand s 0 to_edges (rows edge_row c.edges)
          (both_stand s 0 to_vertices (rows (vertex_bytes l t) c.vertices)
          (both_stand s 0 (ascii "ZOV") (gather (le 2) head_fields) P.mark (fields-stand s 2 head_fields 3 head-stands))
          (rows-stand s (vertex_size l) (vertex_bytes l t) overlay_head c.vertices (λ i q. length-vertex l t i) vertex-stands))
          (rw to_edges_lem (rows-stand s (edge_size l) edge_row (edges_at l c) c.edges (λ i q. length-edge l t i) edge-stands)))
          (rw to_faces_lem (rows-stand s (face_size l) face_row (faces_at l c) c.faces (λ i q. length-face l t i) face-stands))
