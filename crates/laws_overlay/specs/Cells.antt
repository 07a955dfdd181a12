-- The cells of the overlay's tables, by name: what stands in the row of a vertex, a half-edge, an edge's sources and a face, and how many cells there are. Assumes nothing.
use Rattle.std.specs.Prelude.{◌≡◌, refl, ◌<◌, ◌∷◌, ◌++◌, ◌+◌, ◌*◌, ◌/◌}
use Rattle.std.proofs.Common.{sym, ◌∙◌, add-zero, arith, length-append, get_or-append-add}
use Rattle.std.proofs.Math.Path.{ap}
use Rattle.std.proofs.lemmas.List.{length-replicate, length-map}
use Rattle.std.proofs.Math.ListN.{get_or-append, get_or-map}
use Rattle.seq.specs.Seq.{List, [], ℕ, zero, suc, length, get_or, replicate, pos, none}
use Rattle.seq.specs.Rows.{length-rows, cell-rows}
use Rattle.seq.specs.Table.{length-table}
use Rattle.paper.specs.Limits.{absent}
use Rattle.paper.specs.Map.{Map}
use Rattle.paper.specs.Pieces.{layer}
use Rattle.paper.specs.Faces.{Overlay, net, sources_of, label_in, labels_of, holes_of}
use Rattle.paper.specs.Tables.{vertex_width, half_width, face_width, vertex_cell, half_cell, source_cell, face_cell, vertex_row, half_row, the_plus_one, the_source_row, face_row, counts_of, tables_of}
use Rattle.laws_overlay.specs.Sources.{source_at}

module _ (ms : List Map) (o : Overlay) where
  -- ── vertices and half-edges ──

  pub vertex-cell : (v j : ℕ) → v < (counts_of o).vertices → j < vertex_width → vertex_cell (tables_of ms o) v j ≡ get_or (vertex_row (net o) v) j (pos 0)
  unfolding tables_of
  vertex-cell v j l b = cell-rows vertex_width (vertex_row (net o)) (counts_of o).vertices v j (pos 0) (λ k q. refl) l b

  pub half-cell : (h j : ℕ) → h < 2 * (counts_of o).edges → j < half_width → half_cell (tables_of ms o) h j ≡ get_or (half_row o h) j 0
  unfolding tables_of
  half-cell h j l b = cell-rows half_width (half_row o) (2 * (counts_of o).edges) h j 0 (λ k q. refl) l b

  pub vertices_long : length (tables_of ms o).vertices ≡ vertex_width * (counts_of o).vertices
  unfolding tables_of
  vertices_long = length-rows vertex_width (vertex_row (net o)) (counts_of o).vertices (λ k q. refl)

  pub halves_long : length (tables_of ms o).halves ≡ half_width * (2 * (counts_of o).edges)
  unfolding tables_of
  halves_long = length-rows half_width (half_row o) (2 * (counts_of o).edges) (λ k q. refl)

  -- ── sources, where each edge has one place for each map ──

  module _ (wide : (k : ℕ) → k < (counts_of o).edges → length (sources_of o k) ≡ length ms) where
    row-wide : (k : ℕ) → k < (counts_of o).edges → length (the_source_row o k) ≡ length ms
    row-wide k l = length-map (sources_of o k) the_plus_one ∙ wide k l

    pub source-cell : (k i : ℕ) → k < (counts_of o).edges → i < length ms → source_cell (length ms) (tables_of ms o) k i ≡ the_plus_one (source_at (sources_of o k) i)
    unfolding tables_of
    source-cell k i l b = cell-rows (length ms) (the_source_row o) (counts_of o).edges k i 0 row-wide l b ∙ get_or-map the_plus_one (sources_of o k) i none

    pub sources_long : length (tables_of ms o).sources ≡ length ms * (counts_of o).edges
    unfolding tables_of
    sources_long = length-rows (length ms) (the_source_row o) (counts_of o).edges row-wide

  -- ── faces ──

  -- the labels of a face: of face 0 all 0, of another those of its least outer half-edge
  abbrev pub face_labels : ℕ → List ℕ
  face_labels zero = replicate (length ms) 0
  face_labels (suc f) = labels_of ms o (get_or o.outers f 0)

  -- "that number (65,535 for face 0)"
  abbrev pub face_half : ℕ → ℕ
  face_half zero = absent
  face_half (suc f) = get_or o.outers f 0

  labels_long : (f : ℕ) → length (face_labels f) ≡ length ms
  labels_long zero = length-replicate (length ms) 0
  labels_long (suc f) = length-table (λ i. label_in (layer ms i) (net o) (get_or o.outers f 0) (get_or (sources_of o (get_or o.outers f 0 / 2)) i none)) (length ms)

  row_is : (f : ℕ) → face_row ms o f ≡ face_labels f ++ (face_half f ∷ holes_of o f ∷ [])
  row_is zero = refl
  row_is (suc f) = refl

  row_long : (f : ℕ) → length (face_row ms o f) ≡ face_width (length ms)
  row_long f = ap length (row_is f) ∙ length-append (face_labels f) (face_half f ∷ holes_of o f ∷ []) ∙ ap (λ (n : ℕ). n + 2) (labels_long f)

  face-cell : (f j : ℕ) → f < (counts_of o).faces → j < face_width (length ms) → face_cell (length ms) (tables_of ms o) f j ≡ get_or (face_labels f ++ (face_half f ∷ holes_of o f ∷ [])) j 0
  unfolding tables_of
  face-cell f j l b = cell-rows (face_width (length ms)) (face_row ms o) (counts_of o).faces f j 0 (λ k q. row_long k) l b ∙ ap (λ (r : List ℕ). get_or r j 0) (row_is f)

  pub label-cell : (f i : ℕ) → f < (counts_of o).faces → i < length ms → face_cell (length ms) (tables_of ms o) f i ≡ get_or (face_labels f) i 0
  label-cell f i l b =
      face-cell f i l (omega arith) ∙ get_or-append (face_labels f) (face_half f ∷ holes_of o f ∷ []) 0 i (omega (arith, labels_long f))

  past_labels : (f j : ℕ) → get_or (face_labels f ++ (face_half f ∷ holes_of o f ∷ [])) (length ms + j) 0 ≡ get_or (face_half f ∷ holes_of o f ∷ []) j 0
  past_labels f j =
      ap (λ (n : ℕ). get_or (face_labels f ++ (face_half f ∷ holes_of o f ∷ [])) (n + j) 0) (sym (labels_long f)) ∙ get_or-append-add (face_labels f) (face_half f ∷ holes_of o f ∷ []) j 0

  pub least-cell : (f : ℕ) → f < (counts_of o).faces → face_cell (length ms) (tables_of ms o) f (length ms) ≡ face_half f
  least-cell f l =
      face-cell f (length ms) l (omega arith) ∙ ap (λ (n : ℕ). get_or (face_labels f ++ (face_half f ∷ holes_of o f ∷ [])) n 0) (sym (add-zero (length ms))) ∙ past_labels f 0

  pub holes-cell : (f : ℕ) → f < (counts_of o).faces → face_cell (length ms) (tables_of ms o) f (length ms + 1) ≡ holes_of o f
  holes-cell f l = face-cell f (length ms + 1) l (omega arith) ∙ past_labels f 1

  pub faces_long : length (tables_of ms o).faces ≡ face_width (length ms) * (counts_of o).faces
  unfolding tables_of
  faces_long = length-rows (face_width (length ms)) (face_row ms o) (counts_of o).faces (λ k q. row_long k)
