-- What Defined says leaves one outcome, of any number of maps: counts and tables that keep it are those of the defined overlay (`defined_is`), every cell of every table. So no second counts and tables keep it
-- (`defined-unique`), and the operation's promise and the customer's words say the same (`defined-overlay`). Assumes nothing.
use Rattle.std.specs.Prelude.{◌≡◌, ◌<◌, ◌≤◌, ◌+◌, ◌*◌}
use Rattle.std.proofs.Common.{sym, ◌∙◌, ap, subst, arith, ext_get_or, get_or-take}
use Rattle.std.proofs.Math.Decide.{dec_lt, ℕ_discrete}
use Rattle.seq.specs.Seq.{List, ℕ, zero, suc, length, get_or, pos, cell}
use Rattle.paper.specs.Refusal.{done}
use Rattle.paper.specs.Graph.{Graph}
use Rattle.paper.specs.Map.{Map}
use Rattle.paper.specs.Pieces.{Piece, vertices_of, edges_of}
use Rattle.paper.specs.Plane.{Pt}
use Rattle.paper.specs.Tables.{Counts, Tables, vertex_width, half_width, face_width, vertex_cell, half_cell, source_cell, face_cell}
use Rattle.paper.specs.Lent.{Lengths, lengths_of, room_in, padded_tables}
use Rattle.paper.specs.Overlay.{lent}
use Rattle.laws_refusals.specs.Room.{Fits}
use Rattle.laws_overlay.specs.Maps.{AllKeep}
use Rattle.laws_overlay.specs.Inside.{overlaid}
use Rattle.laws_overlay.specs.Files.{maps_of, maps-count, files-keep, files-reach}
use Rattle.laws_labels.specs.Done.{passes-done, done-tables}
use Rattle.laws_roundtrip.specs.ReadCells.{exact_lengths}
use Rattle.laws_roundtrip.specs.Counted.{AtLeast, room_rows, rows_same}
use Rattle.laws_promise.specs.Demands.{counts_for, tables_for}
use Rattle.laws_promise.specs.Defined.{VertexRows, EdgeRows, HalfRows, FaceRows, Zeros, Defined}
use Rattle.laws_promise.specs.Rows.{Pieced}
use Rattle.laws_promise.specs.Held.{Held, overlay-pieced}
use Rattle.laws_promise.proofs.Held.{padded-zeros}
use Rattle.laws_promise.specs.VertexRows.{vertex-rows}
use Rattle.laws_promise.proofs.EdgeRows.{edge-rows}
use Rattle.laws_promise.proofs.HalfRows.{half-rows}
use Rattle.laws_promise.proofs.FaceRows.{face-rows}
use Rattle.laws_promise.specs.Promised.{held, lengths-are}
use Rattle.laws_promise.specs.SameEdges.{vertices_same, point_same}
use Rattle.laws_promise.proofs.SameEdges.{edges-agree, out_same, origin-agrees, twin_same, follower-agrees, predecessor_same, source_same}
use Rattle.laws_promise.proofs.SameFaces.{faces_same, face-cell_same, label_same, least_same, holes-agree}

-- flat tables with the same cells in m rows of w, and the same past them
cells_same : {A : Type 0} (z : A) (w m : ℕ) (xs ys : List A) → w * m ≤ length xs → w * m ≤ length ys → ((r j : ℕ) → r < m → j < w → cell z w xs r j ≡ cell z w ys r j)
    → ((i : ℕ) → w * m ≤ i → get_or xs i z ≡ get_or ys i z) → (i : ℕ) → get_or xs i z ≡ get_or ys i z
cells_same z w m xs ys hx hy rows past i =
    elim (dec_lt i (w * m)) [
      | yes q ↦ sym (get_or-take (w * m) xs i z q) ∙ ap (λ l. get_or l i z) (rows_same z w xs ys m hx hy rows) ∙ get_or-take (w * m) ys i z q
      | no q ↦ past i (omega arith)
    ]

module _ (l : Lengths) (files : List (List ℕ)) (c : Counts) (t : Tables) (D : Defined l files c t) where
  abbrev ms : List Map
  ms = maps_of files

  abbrev n : ℕ
  n = length (maps_of files)

  abbrev d : Counts
  d = counts_for files

  abbrev u : Tables
  u = padded_tables l (tables_for files)

  K : AllKeep (maps_of files)
  K = files-keep files D.passes

  abbrev ps : List Piece
  ps = edges_of (maps_of files) (vertices_of (maps_of files))

  abbrev g : Graph
  g = overlaid (maps_of files)

  N : Pieced (maps_of files) (edges_of (maps_of files) (vertices_of (maps_of files))) (overlaid (maps_of files))
  N = overlay-pieced ms K

  H : Held (maps_of files) (counts_for files) (padded_tables l (tables_for files))
  H = held files D.passes l

  W : VertexRows (maps_of files) (counts_for files) (padded_tables l (tables_for files))
  W = vertex-rows ms K (files-reach files D.passes) d u H

  F : EdgeRows (maps_of files) (counts_for files) (padded_tables l (tables_for files))
  F = edge-rows ms K d u H

  R : HalfRows (counts_for files) (padded_tables l (tables_for files))
  R = half-rows ms ps g N d u H

  B : FaceRows (maps_of files) (counts_for files) (padded_tables l (tables_for files))
  B = face-rows ms K ps g N d u H

  -- ── the counts ──

  same_vertices : c.vertices ≡ d.vertices
  same_vertices = vertices_same ms c t D.vertices D.edges D.halves d u W F R

  same_edges : c.edges ≡ d.edges
  same_edges = edges-agree ms c t D.vertices D.edges D.halves d u W F R

  same_faces : c.faces ≡ d.faces
  same_faces = faces_same ms K c t D.vertices D.edges D.halves D.faces d u W F R B H

  counts-are : c ≡ counts_for files
  counts-are = λ i. record { vertices = same_vertices i; edges = same_edges i; faces = same_faces i }

  lengths_same : lengths_of t ≡ lengths_of u
  lengths_same = D.lengths ∙ sym (lengths-are files D.passes l (subst (Fits (room_in (length files) l)) counts-are D.room))

  -- both have the counted rows, and zeros past them
  rows_t : AtLeast (exact_lengths (length (maps_of files)) c) (lengths_of t)
  rows_t = room_rows n c (lengths_of t) (subst (λ (k : ℕ). Fits (room_in k (lengths_of t)) c) (sym (maps-count files)) (subst (λ (x : Lengths). Fits (room_in (length files) x) c) (sym D.lengths) D.room))

  rows_u : AtLeast (exact_lengths (length (maps_of files)) c) (lengths_of (padded_tables l (tables_for files)))
  rows_u = subst (AtLeast (exact_lengths n c)) lengths_same rows_t

  zeros_t : Zeros (length (maps_of files)) c t
  zeros_t = subst (λ (k : ℕ). Zeros k c t) (sym (maps-count files)) D.zeros

  zeros_u : Zeros (length (maps_of files)) c (padded_tables l (tables_for files))
  zeros_u = subst (λ (k : Counts). Zeros n k u) (sym counts-are) (padded-zeros ms K l)

  -- ── the cells ──

  vertex_at_lem : (v j : ℕ) → v < c.vertices → j < 4 → vertex_cell t v j ≡ vertex_cell u v j
  vertex_at_lem v zero b j = ap (λ (p : Pt). p.X) (point_same ms c t D.vertices D.edges D.halves d u W F R v b)
  vertex_at_lem v (suc zero) b j = ap (λ (p : Pt). p.Y) (point_same ms c t D.vertices D.edges D.halves d u W F R v b)
  vertex_at_lem v (suc (suc zero)) b j = ap (λ (p : Pt). p.D) (point_same ms c t D.vertices D.edges D.halves d u W F R v b)
  vertex_at_lem v (suc (suc (suc zero))) b j = out_same ms c t D.vertices D.edges D.halves d u W F R v b
  vertex_at_lem v (suc (suc (suc (suc k)))) b j = absurd (omega arith)

  half_at : (h j : ℕ) → h < 2 * c.edges → j < 5 → half_cell t h j ≡ half_cell u h j
  half_at h zero b j = origin-agrees ms c t D.vertices D.edges D.halves d u W F R h b
  half_at h (suc zero) b j = twin_same ms c t D.vertices D.edges D.halves d u W F R h b
  half_at h (suc (suc zero)) b j = follower-agrees ms c t D.vertices D.edges D.halves d u W F R h b
  half_at h (suc (suc (suc zero))) b j = predecessor_same ms c t D.vertices D.edges D.halves d u W F R h b
  half_at h (suc (suc (suc (suc zero)))) b j = face-cell_same ms K c t D.vertices D.edges D.halves D.faces d u W F R B H h b
  half_at h (suc (suc (suc (suc (suc k))))) b j = absurd (omega arith)

  source_at_lem : (k i : ℕ) → k < c.edges → i < n → source_cell n t k i ≡ source_cell n u k i
  source_at_lem k i b j = source_same ms c t D.vertices D.edges D.halves d u W F R k i b j

  face_at_lem : (f j : ℕ) → f < c.faces → j < face_width n → face_cell n t f j ≡ face_cell n u f j
  face_at_lem f j b m =
      elim (dec_lt j n) [
        | yes q ↦ label_same ms K c t D.vertices D.edges D.halves D.faces d u W F R B H f j b q
        | no q ↦ elim (ℕ_discrete j n) [
          | yes e ↦ subst (λ (k : ℕ). face_cell n t f k ≡ face_cell n u f k) (sym e) (least_same ms K c t D.vertices D.edges D.halves D.faces d u W F R B H f b)
          | no e ↦ let o : j ≡ n + 1 = omega arith in
              subst (λ (k : ℕ). face_cell n t f k ≡ face_cell n u f k) (sym o) (holes-agree ms K c t D.vertices D.edges D.halves D.faces d u W F R B H f b)
        ]
      ]

  -- ── the tables: up to the counts by cells, past them zero ──

  vertices_at : (i : ℕ) → get_or t.vertices i (pos 0) ≡ get_or u.vertices i (pos 0)
  vertices_at = cells_same (pos 0) vertex_width c.vertices t.vertices u.vertices rows_t.vertices rows_u.vertices vertex_at_lem (λ i b. zeros_t.vertices i b ∙ sym (zeros_u.vertices i b))

  halves_at : (i : ℕ) → get_or t.halves i 0 ≡ get_or u.halves i 0
  halves_at = cells_same 0 half_width (2 * c.edges) t.halves u.halves rows_t.halves rows_u.halves half_at (λ i b. zeros_t.halves i b ∙ sym (zeros_u.halves i b))

  sources_at_lem : (i : ℕ) → get_or t.sources i 0 ≡ get_or u.sources i 0
  sources_at_lem = cells_same 0 n c.edges t.sources u.sources rows_t.sources rows_u.sources source_at_lem (λ i b. zeros_t.sources i b ∙ sym (zeros_u.sources i b))

  faces_at_lem : (i : ℕ) → get_or t.faces i 0 ≡ get_or u.faces i 0
  faces_at_lem = cells_same 0 (face_width n) c.faces t.faces u.faces rows_t.faces rows_u.faces face_at_lem (λ i b. zeros_t.faces i b ∙ sym (zeros_u.faces i b))

  tables-are : t ≡ padded_tables l (tables_for files)
  tables-are = λ i. record {
    vertices = ext_get_or (pos 0) t.vertices u.vertices (ap (λ (n : Lengths). n.vertices) lengths_same) (λ k b. vertices_at k) i;
    halves = ext_get_or 0 t.halves u.halves (ap (λ (n : Lengths). n.halves) lengths_same) (λ k b. halves_at k) i;
    sources = ext_get_or 0 t.sources u.sources (ap (λ (n : Lengths). n.sources) lengths_same) (λ k b. sources_at_lem k) i;
    faces = ext_get_or 0 t.faces u.faces (ap (λ (n : Lengths). n.faces) lengths_same) (λ k b. faces_at_lem k) i;
  }

  -- counts and tables are those of the defined overlay
  pub defined_is : (c ≡ counts_for files) × (t ≡ padded_tables l (tables_for files))
  defined_is = (counts-are, tables-are)

  -- what keeps the customer's words is what the operation promises
  pub defined-overlay : lent l files ≡ record { answer = done c; tables = t }
  defined-overlay =
      let e : (lent l files).answer ≡ done d = passes-done l files D.passes (subst (Fits (room_in (length files) l)) counts-are D.room) in
      λ i. record { answer = (e ∙ ap done (sym counts-are)) i; tables = (done-tables l files d e ∙ sym tables-are) i }

-- no second counts and tables keep it
pub defined-unique : (l : Lengths) (files : List (List ℕ)) (c e : Counts) (t u : Tables) → Defined l files c t → Defined l files e u → (c ≡ e) × (t ≡ u)
defined-unique l files c e t u D G =
    let p = defined_is l files c t D in
    let q = defined_is l files e u G in
    (p.0 ∙ sym q.0, p.1 ∙ sym q.1)
