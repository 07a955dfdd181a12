-- The rows of the defined tables with an empty map after the others, of maps that keep the rules: the sources of an edge are those that it had, and 0 (`source_before`, `source_last`); the labels of a face are
-- those that it had, and 0, and then its least half-edge and holes (`face_before`, `face_last`, `face_past`). Assumes nothing.
use Rattle.std.specs.Prelude.{◌≡◌, ◌<◌, ◌≤◌, ◌∷◌, ◌+◌}
use Rattle.std.proofs.Math.Path.{sym}
use Rattle.std.proofs.Common.{◌∙◌, ap, le_refl, arith, length-append}
use Rattle.std.proofs.lemmas.List.{length-map, length-replicate}
use Rattle.seq.specs.Seq.{List, [], ℕ, zero, suc, length, get_or, replicate}
use Rattle.seq.specs.Rows.{cell-rows}
use Rattle.seq.specs.Table.{length-table}
use Rattle.seq.specs.Put.{put, length-put, put_before, put-own, put_past}
use Rattle.paper.specs.Limits.{absent}
use Rattle.paper.specs.Map.{Map}
use Rattle.paper.specs.Faces.{Overlay, overlay_of, labels_of, holes_of, sources_of}
use Rattle.paper.specs.Tables.{Counts, Tables, face_width, counts_of, tables_of, source_cell, face_cell, the_source_row, face_row, the_plus_one}
use Rattle.laws_overlay.specs.Maps.{AllKeep}
use Rattle.laws_overlay.specs.Parts.{made}
use Rattle.laws_overlay.proofs.Parts.{sources-wide}
use Rattle.laws_overlay.specs.EmptyMap.{with_empty}
use Rattle.laws_overlay.specs.EmptyTables.{empty-tables}

module _ (ms : List Map) (K : AllKeep ms) where
  abbrev o : Overlay
  o = overlay_of ms

  abbrev c : Counts
  c = counts_of (overlay_of ms)

  source-wide : (k : ℕ) → k < c.edges → length (the_source_row o k) ≡ length ms
  source-wide k l = length-map (sources_of o k) the_plus_one ∙ sources-wide ms K k l

  module _ (k : ℕ) (l : k < (counts_of (overlay_of ms)).edges) where
    source-cells : (i : ℕ) → i < suc (length ms) → source_cell (suc (length ms)) (made (with_empty (length ms) ms)) k i ≡ get_or (put (length ms) 0 (the_source_row o k)) i 0
    source-cells i b =
        ap (λ (t : Tables). source_cell (suc (length ms)) t k i) (empty-tables ms (length ms) (le_refl (length ms)))
        ∙ cell-rows (suc (length ms)) (λ k. put (length ms) 0 (the_source_row o k)) c.edges k i 0
        (λ k q. length-put (length ms) 0 (the_source_row o k) (omega (arith, source-wide k q)) ∙ ap suc (source-wide k q)) l b

    pub source_before : (i : ℕ) → i < length ms → source_cell (suc (length ms)) (made (with_empty (length ms) ms)) k i ≡ source_cell (length ms) (made ms) k i
    unfolding tables_of
    source_before i b = source-cells i (omega arith) ∙ put_before (length ms) 0 (the_source_row o k) 0 i b ∙ sym (cell-rows (length ms) (the_source_row o) c.edges k i 0 source-wide l b)

    pub source_last : source_cell (suc (length ms)) (made (with_empty (length ms) ms)) k (length ms) ≡ 0
    source_last = source-cells (length ms) (omega arith) ∙ put-own (length ms) 0 (the_source_row o k) 0 (omega (arith, source-wide k l))

  face-wide : (f : ℕ) → length (face_row ms o f) ≡ face_width (length ms)
  face-wide zero = length-append (replicate (length ms) 0) (absent ∷ holes_of o 0 ∷ []) ∙ ap (λ (n : ℕ). n + 2) (length-replicate (length ms) 0)
  face-wide (suc f) =
      let h = get_or o.outers f 0 in
      length-append (labels_of ms o h) (h ∷ holes_of o (suc f) ∷ []) ∙ ap (λ (n : ℕ). n + 2) (length-table _ (length ms))

  module _ (f : ℕ) (l : f < (counts_of (overlay_of ms)).faces) where
    face-cells : (j : ℕ) → j < face_width (suc (length ms)) → face_cell (suc (length ms)) (made (with_empty (length ms) ms)) f j ≡ get_or (put (length ms) 0 (face_row ms o f)) j 0
    face-cells j b =
        ap (λ (t : Tables). face_cell (suc (length ms)) t f j) (empty-tables ms (length ms) (le_refl (length ms)))
        ∙ cell-rows (face_width (suc (length ms))) (λ x. put (length ms) 0 (face_row ms o x)) c.faces f j 0
        (λ x q. let e = length-put (length ms) 0 (face_row ms o x) (omega (arith, face-wide x)) in omega (arith, e, face-wide x)) l b

    own-cells : (j : ℕ) → j < face_width (length ms) → face_cell (length ms) (made ms) f j ≡ get_or (face_row ms o f) j 0
    unfolding tables_of
    own-cells j b = cell-rows (face_width (length ms)) (face_row ms o) c.faces f j 0 (λ x q. face-wide x) l b

    pub face_before : (j : ℕ) → j < length ms → face_cell (suc (length ms)) (made (with_empty (length ms) ms)) f j ≡ face_cell (length ms) (made ms) f j
    face_before j b = face-cells j (omega arith) ∙ put_before (length ms) 0 (face_row ms o f) 0 j b ∙ sym (own-cells j (omega arith))

    pub face_last : face_cell (suc (length ms)) (made (with_empty (length ms) ms)) f (length ms) ≡ 0
    face_last = face-cells (length ms) (omega arith) ∙ put-own (length ms) 0 (face_row ms o f) 0 (omega (arith, face-wide f))

    pub face_past : (j : ℕ) → length ms ≤ j → j < face_width (length ms) → face_cell (suc (length ms)) (made (with_empty (length ms) ms)) f (suc j) ≡ face_cell (length ms) (made ms) f j
    face_past j a b = face-cells (suc j) (omega arith) ∙ put_past (length ms) 0 (face_row ms o f) 0 j a ∙ sym (own-cells j b)
