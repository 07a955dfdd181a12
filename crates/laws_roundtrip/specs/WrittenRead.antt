-- "writing what was read gives the same bytes only for the newest version" (02, Ask 7): what the reader accepts of that version, the writer gives back byte for byte, with zeros past it. First for any
-- version's layout that the writer writes (`read_is_written`), then for the reader and the writer as they stand (`written_read`). Assumes nothing.
use Rattle.std.specs.Prelude.{◌≡◌, ◌<◌, ◌≤◌, ◌+◌, ◌*◌, ◌/◌, ◌%◌}
use Rattle.std.proofs.Common.{sym, ◌∙◌, ap, subst, le_refl, arith, lt-ltb}
use Rattle.seq.specs.Seq.{Bool, cond, List, ℕ, length, get_or, ℤ, padded}
use Rattle.paper.specs.Limits.{denominator_bytes, maps}
use Rattle.paper.specs.Bytes.{ascii, number, u16, signed_at, le, le_signed}
use Rattle.paper.specs.Refusal.{done}
use Rattle.paper.specs.Tables.{vertex_cell, source_cell, face_cell, Counts, Tables}
use Rattle.paper.specs.Lent.{Lengths, lengths_of, padded_tables}
use Rattle.paper.specs.Ovfile.{Layout, file_length, edge_fields, overlay_file, layout_of}
use Rattle.paper.specs.Writer.{write_by}
use Rattle.paper.specs.Reader.{counts_in, edge_field, tables_in, read_by}
use Rattle.laws_file.specs.Bytes.{Bytes, Stands, le-number, le_signed-signed}
use Rattle.laws_file.specs.Stands.{stands-whole}
use Rattle.laws_file.specs.Agree.{file_same, padded-agree}
use Rattle.laws_file.specs.Placed.{vertex_at, the_edge_at, face_at, edge_width, Placed, length-file, placed-file}
use Rattle.laws_file.specs.EdgeFields.{fields-are}
use Rattle.laws_file.specs.Fields.{marked-stands}
use Rattle.laws_roundtrip.specs.Accepts.{is_write, Reads}
use Rattle.laws_roundtrip.specs.ReadCells.{vertex-cell, half-cell, source-cell, face-fields, read-lengths}
use Rattle.laws_roundtrip.specs.Zeros.{padded-writes}
use Rattle.laws_roundtrip.specs.ReadWritten.{write_done}
use Rattle.laws_roundtrip.specs.ReadGood.{origin_is, follower_is, good-vertex, good-edge}

module _ (l : Layout) (some_bytes : 0 < l.coordinate) (s : List ℕ) (B : Bytes s) where
  abbrev c : Counts
  c = counts_in s

  abbrev u : Tables
  u = tables_in l.maps l s

  -- ── edges ──

  -- field j of half-edge 2k + b
  at_edge : (k b j : ℕ) → b < 2 → edge_field l s ((2 * k + b) / 2) (j + (2 * k + b) % 2) ≡ edge_field l s k (j + b)
  at_edge k b j m =
      let e : (2 * k + b) / 2 ≡ k = omega arith in
      let f : (2 * k + b) % 2 ≡ b = omega arith in
      λ i. edge_field l s (e i) (j + f i)

  source_is : (k i : ℕ) → k < c.edges → i < l.maps → source_cell l.maps u k i ≡ edge_field l s k (2 + i)
  source_is k i b m = source-cell l.maps l s k i b m ∙ ap (λ (x : Bool). cond x (edge_field l s k (2 + i)) 0) (lt-ltb i l.maps m)

  edge-fields : (k j : ℕ) → k < c.edges → j < edge_width l.maps → get_or (edge_fields l.maps u k) j 0 ≡ edge_field l s k j
  edge-fields k j b m =
      fields-are l.maps u k (edge_field l s k)
      (λ x lx. let e : (2 * k + x) / 2 ≡ k = omega arith in let f : (2 * k + x) % 2 ≡ x = omega arith in origin_is l.maps l s B (2 * k + x) (omega arith) ∙ (λ i. edge_field l s (e i) (f i)))
      (λ i li. source_is k i b li)
      (λ x lx. follower_is l.maps l s B (2 * k + x) (omega arith) ∙ at_edge k x (2 + l.maps) lx)
      (λ x lx. half-cell l.maps l s (2 * k + x) 4 (omega arith) (omega arith) ∙ at_edge k x (4 + l.maps) lx)
      j m

  -- ── every number stands at its place ──

  number_at : (w i x : ℕ) → x ≡ number w s i → Stands s i (le w x)
  number_at w i x e = subst (λ (y : ℕ). Stands s i (le w y)) (sym e) (le-number w s i B)

  signed_at_lem : (w i : ℕ) (z : ℤ) → z ≡ signed_at w s i → Stands s i (le_signed w z)
  signed_at_lem w i z e = subst (Stands s i) (sym (ap (le_signed w) e ∙ le_signed-signed w s i B)) (le-number w s i B)

  module _ (mark : Stands s 0 (ascii "ZOV")) where
    pub read-placed : Placed (u16 s 3) l (counts_in s) (tables_in l.maps l s) s
    read-placed = record {
      mark = mark;
      version_at = le-number 2 s 3 B;
      vertices_at = le-number 2 s 5 B;
      edges_at_lem = le-number 2 s 7 B;
      faces_at_lem = le-number 2 s 9 B;
      x_at = λ v b. signed_at_lem l.coordinate (vertex_at l v) (vertex_cell u v 0) (vertex-cell l.maps l s v 0 b (omega arith));
      y_at = λ v b. signed_at_lem l.coordinate (vertex_at l v + l.coordinate) (vertex_cell u v 1) (vertex-cell l.maps l s v 1 b (omega arith));
      d_at = λ v b. subst (λ (z : ℤ). Stands s (vertex_at l v + 2 * l.coordinate) (le_signed denominator_bytes z)) (sym (vertex-cell l.maps l s v 2 b (omega arith))) (le-number denominator_bytes s (vertex_at l v + 2 * l.coordinate) B);
      edge_at = λ k j b m. number_at 2 (the_edge_at l c k + 2 * j) (get_or (edge_fields l.maps u k) j 0) (edge-fields k j b m);
      face_at_lem = λ f j b m. number_at 2 (face_at l c f + 2 * j) (face_cell l.maps u f j) (face-fields l s f j b m);
    }

    pub read-file : length s ≡ file_length l (counts_in s) → s ≡ overlay_file (u16 s 3) l (counts_in s) (tables_in l.maps l s)
    read-file e = stands-whole s (overlay_file (u16 s 3) l c u) (e ∙ sym (length-file (u16 s 3) l c u)) (placed-file (u16 s 3) l c u s read-placed)

  -- ── the writer accepts them ──

  module _ (versions : ℕ) (ls : Lengths) (R : Reads l.maps versions l ls s (tables_in l.maps l s)) where
    -- ── with zeros past them ──

    abbrev t : Tables
    t = padded_tables ls u

    pub written : (n : ℕ) → length s ≤ n → write_by (u16 s 3) l n (counts_in s) (padded_tables ls (tables_in l.maps l s)) ≡ record { answer = done (length s); buffer = padded 0 n s }
    written n m =
        let file : overlay_file (u16 s 3) l c t ≡ s = file_same (u16 s 3) l c t u (padded-agree l.maps c ls u) ∙ sym (read-file (marked-stands (ascii "ZOV") s 0 R.mark) R.exact) in
        write_done (u16 s 3) l n c t (is_write l n (lengths_of t) c t (padded-writes l n ls c u (read-lengths l.maps l s) R.room (good-vertex l.maps l s B some_bytes l (le_refl l.coordinate)) (good-edge l.maps l s B versions ls R) (omega (arith, R.exact)))) ∙ (λ i. record { answer = done (sym R.exact i); buffer = padded 0 n (file i) })

-- ── of a version that the writer writes ──

module _ (known : List Layout) (version : ℕ) (some_bytes : 0 < (layout_of known version).coordinate) (s : List ℕ) (B : Bytes s) (is-version : u16 s 3 ≡ version) (ls : Lengths) (c : Counts)
    (d : (read_by (layout_of known version).maps known ls s).answer ≡ done c) where
  abbrev pub l : Layout
  l = layout_of known version
