-- An empty map put anywhere into the list of maps: the overlay has the same walks, faces and outer walks (`empty-overlay`); each half-edge has one label more, 0, at its place
-- (`empty-labels`); and the tables have the same counts, vertices and half-edges, with one source more, 0, in each edge's row and one label more, 0, in each face's
-- (`empty-tables`). Asks 11 and 13 lean on it. Assumes nothing.
use Rattle.std.specs.Prelude.{◌≡◌, refl, ◌<◌, ◌≤◌, ◌∷◌, ◌++◌, ◌*◌, ◌/◌}
use Rattle.std.proofs.Common.{sym, ◌∙◌, ap, not-suc-le-zero, le_of_suc-le-suc, arith}
use Rattle.std.proofs.Math.ListN.{length-map}
use Rattle.std.proofs.lemmas.List.{length-replicate}
use Rattle.seq.specs.Seq.{List, [], map, none, ℕ, zero, suc, length, get_or, replicate, rows, table}
use Rattle.seq.specs.Rows.{rows_ext}
use Rattle.seq.specs.Table.{length-table}
use Rattle.seq.specs.Put.{put, put_before, put-default, put_past, put_map, put-++, put-replicate, table-put}
use Rattle.paper.specs.Limits.{absent}
use Rattle.paper.specs.Map.{Map}
use Rattle.paper.specs.Pieces.{Piece, layer, vertices_of, edges_of, edge_of}
use Rattle.paper.specs.Faces.{Overlay, walks_of, overlay_by, overlay_of, net, sources_of, label_in, labels_of, holes_of}
use Rattle.paper.specs.Tables.{vertex_row, half_row, the_plus_one, the_source_row, face_row, counts_of, tables_of}
use Rattle.laws_overlay.specs.Sources.{source_at}
use Rattle.laws_overlay.specs.Pieces.{piece_at}
use Rattle.laws_overlay.specs.EmptyMap.{with_empty, with_none, one_more, layer_before, layer-own, layer_past, empty-vertices, empty-pieces, empty-graph}

-- an overlay with one source more, none, at place a in each piece
abbrev pub with_nones : ℕ → Overlay → Overlay
with_nones a o = record { pieces = map (with_none a) o.pieces; walks = o.walks; face = o.face; outers = o.outers }

-- ── the sources of edge k, also past the last ──

module _ (a : ℕ) where
  source_before : (l : List Piece) (k i : ℕ) → i < a → source_at (piece_at (map (with_none a) l) k).sources i ≡ source_at (piece_at l k).sources i
  source_before [] k i h = refl
  source_before (p ∷ ps) zero i h = put_before a none p.sources none i h
  source_before (p ∷ ps) (suc k) i h = source_before ps k i h

  source-own : (l : List Piece) (k : ℕ) → source_at (piece_at (map (with_none a) l) k).sources a ≡ none
  source-own [] k = refl
  source-own (p ∷ ps) zero = put-default a p.sources none
  source-own (p ∷ ps) (suc k) = source-own ps k

  source_past : (l : List Piece) (k i : ℕ) → a ≤ i → source_at (piece_at (map (with_none a) l) k).sources (suc i) ≡ source_at (piece_at l k).sources i
  source_past [] k i h = refl
  source_past (p ∷ ps) zero i h = put_past a none p.sources none i h
  source_past (p ∷ ps) (suc k) i h = source_past ps k i h

  -- the sources of an edge that is there
  source_row : (l : List Piece) (k : ℕ) → k < length l → (piece_at (map (with_none a) l) k).sources ≡ put a none (piece_at l k).sources
  source_row [] k h = absurd (not-suc-le-zero h)
  source_row (p ∷ ps) zero h = refl
  source_row (p ∷ ps) (suc k) h = source_row ps k (le_of_suc-le-suc h)

module _ (ms : List Map) (a : ℕ) (h : a ≤ length ms) where
  abbrev more : List Map
  more = with_empty a ms

  -- ── the overlay ──

  same_pieces : edges_of (with_empty a ms) (vertices_of (with_empty a ms)) ≡ map (with_none a) (edges_of ms (vertices_of ms))
  same_pieces = ap (edges_of (with_empty a ms)) (empty-vertices ms a h) ∙ empty-pieces ms a h (vertices_of ms)

  pub empty-overlay : overlay_of (with_empty a ms) ≡ with_nones a (overlay_of ms)
  unfolding overlay_of
  empty-overlay = λ i. overlay_by (same_pieces i) (walks_of (empty-graph ms a h i))

  -- ── labels ──

  module _ (o : Overlay) (x : ℕ) where
    abbrev f : ℕ → ℕ
    f i = label_in (layer ms i) (net o) x (source_at (piece_at o.pieces (x / 2)).sources i)

    abbrev f' : ℕ → ℕ
    f' i = label_in (layer more i) (net o) x (source_at (piece_at (map (with_none a) o.pieces) (x / 2)).sources i)

    -- in the empty map nothing is seen
    no_label : f' a ≡ 0
    no_label = λ i. label_in (layer-own ms a h i) (net o) x (source-own a o.pieces (x / 2) i)

    labels-put : labels_of (with_empty a ms) (with_nones a o) x ≡ put a 0 (labels_of ms o x)
    labels-put =
        ap (table f') (one_more ms a h)
        ∙ sym (table-put a (length ms) h f f' (λ i l j. label_in (layer_before ms a h i l j) (net o) x (source_before a o.pieces (x / 2) i l j))
        (λ i l j. label_in (layer_past ms a h i l j) (net o) x (source_past a o.pieces (x / 2) i l j)))
        ∙ ap (λ (y : ℕ). put a y (table f (length ms))) no_label

  -- "adds the label 0 to each half-edge"
  pub empty-labels : (x : ℕ) → labels_of (with_empty a ms) (overlay_of (with_empty a ms)) x ≡ put a 0 (labels_of ms (overlay_of ms) x)
  empty-labels x = ap (λ (o : Overlay). labels_of (with_empty a ms) o x) empty-overlay ∙ labels-put (overlay_of ms) x

  -- ── tables ──

  pub empty-counts : counts_of (overlay_of (with_empty a ms)) ≡ counts_of (overlay_of ms)
  empty-counts = ap counts_of empty-overlay

  module _ (o : Overlay) where
    row_put : (k : ℕ) → k < length o.pieces → the_source_row (with_nones a o) k ≡ put a 0 (the_source_row o k)
    row_put k l = ap (map the_plus_one) (source_row a o.pieces k l) ∙ put_map the_plus_one a none (sources_of o k)

    face-put : (x : ℕ) → face_row (with_empty a ms) (with_nones a o) x ≡ put a 0 (face_row ms o x)
    face-put zero =
        ap (λ (n : ℕ). replicate n 0 ++ (absent ∷ holes_of o 0 ∷ [])) (one_more ms a h)
        ∙ ap (λ (l : List ℕ). l ++ (absent ∷ holes_of o 0 ∷ [])) (sym (put-replicate a (length ms) 0 h))
        ∙ put-++ a 0 (replicate (length ms) 0) (absent ∷ holes_of o 0 ∷ []) (omega (arith, length-replicate {A = ℕ} (length ms) 0))
    face-put (suc x) =
        let y : ℕ = get_or o.outers x 0 in
        ap (λ (l : List ℕ). l ++ (y ∷ holes_of o (suc x) ∷ [])) (labels-put o y)
        ∙ put-++ a 0 (labels_of ms o y) (y ∷ holes_of o (suc x) ∷ []) (omega (arith, length-table (f o y) (length ms)))

    tables-put : (counts_of o).edges ≤ length o.pieces → tables_of (with_empty a ms) (with_nones a o) ≡ record {
      vertices = (tables_of ms o).vertices;
      halves = (tables_of ms o).halves;
      sources = rows (λ k. put a 0 (the_source_row o k)) (counts_of o).edges;
      faces = rows (λ x. put a 0 (face_row ms o x)) (counts_of o).faces;
    }
    unfolding tables_of
    tables-put l = λ i. record {
      vertices = rows (vertex_row (net o)) (counts_of o).vertices;
      halves = rows (half_row o) (2 * (counts_of o).edges);
      sources = rows_ext (the_source_row (with_nones a o)) (λ k. put a 0 (the_source_row o k)) (counts_of o).edges (λ k b. row_put k (omega arith)) i;
      faces = rows_ext (face_row (with_empty a ms) (with_nones a o)) (λ x. put a 0 (face_row ms o x)) (counts_of o).faces (λ x b. face-put x) i;
    }

  enough : (counts_of (overlay_of ms)).edges ≤ length (overlay_of ms).pieces
  unfolding overlay_of
  enough = omega (arith, length-map (edges_of ms (vertices_of ms)) (edge_of ms))

  -- one source and one label more, 0; nothing else
  pub empty-tables : tables_of (with_empty a ms) (overlay_of (with_empty a ms)) ≡ record {
    vertices = (tables_of ms (overlay_of ms)).vertices;
    halves = (tables_of ms (overlay_of ms)).halves;
    sources = rows (λ k. put a 0 (the_source_row (overlay_of ms) k)) (counts_of (overlay_of ms)).edges;
    faces = rows (λ x. put a 0 (face_row ms (overlay_of ms) x)) (counts_of (overlay_of ms)).faces;
  }
  empty-tables = ap (tables_of (with_empty a ms)) empty-overlay ∙ tables-put (overlay_of ms) enough
