-- The file's parts as the code stores them, one behind the other: their lengths, and the whole. Assumes nothing.
use Rattle.std.specs.Prelude.{◌++◌, ◌+◌, ◌*◌}
use mathlib.Core.Path.{◌≡◌, refl, sym, ◌∙◌, ap}
use Prim.Native.Nat.{◌≤◌}
use native.Mathlib.Nat.{zero-add}
use lib.ListN.{length-append}
use Rattle.seq.specs.Seq.{List, ℕ, length, ℤ, sets, rows, gather, padded, wiped}
use Rattle.seq.specs.Rows.{length-rows}
use Rattle.paper.specs.Limits.{overlay_head, coordinate_bytes, denominator_bytes, maps}
use Rattle.paper.specs.Bytes.{ascii, le, le_signed}
use Rattle.paper.specs.Tables.{vertex_cell, Counts, Tables}
use Rattle.paper.specs.Ovfile.{layouts, vertex_size, edge_size, face_size, edges_at, faces_at, file_length, vertex_bytes, edge_fields, face_fields, overlay_file}
use Rattle.laws_file.specs.Bytes.{wrapped, length-le_signed, le_signed-wrapped}
use Rattle.ovfile.specs.Values.{layout}
use Rattle.seq.specs.Over.{stored-behind}
use Rattle.seq.specs.Wiped.{stored-wiped}
use Rattle.ovfile_write.specs.Judged.{head_fields}

-- the bytes of an edge and of a face
abbrev pub edge_bytes : Tables → ℕ → List ℕ
edge_bytes t k = gather (le 2) (edge_fields maps t k)

abbrev pub face_bytes : Tables → ℕ → List ℕ
face_bytes t f = gather (le 2) (face_fields maps t f)

pub edge_long : (t : Tables) (k : ℕ) → length (edge_bytes t k) ≡ edge_size layout
edge_long t k = refl

pub face_long : (t : Tables) (f : ℕ) → length (face_bytes t f) ≡ face_size layout
face_long t f = refl

-- what is stored behind what was stored from a place on
pub then-behind : (d : List ℕ) (at : ℕ) (xs ys t u : List ℕ) (k : ℕ) → t ≡ sets d at xs → u ≡ sets t k ys → k ≡ at + length xs → u ≡ sets d at (xs ++ ys)
then-behind d at xs ys t u k e g q = g ∙ (λ i. sets (e i) (q i) ys) ∙ stored-behind d at xs ys

-- ── a vertex ──

-- the bytes of a number, by the unsigned number that has them
pub signed-bytes : (w n : ℕ) (y z : ℤ) → n ≡ wrapped w y → y ≡ z → le w n ≡ le_signed w z
signed-bytes w n y z e g = ap (le w) (e ∙ ap (wrapped w) g) ∙ sym (le_signed-wrapped w z)

module _ (t : Tables) (v : ℕ) where
  abbrev x : List ℕ
  x = le_signed coordinate_bytes (vertex_cell t v 0)

  abbrev y : List ℕ
  y = le_signed coordinate_bytes (vertex_cell t v 1)

  abbrev d : List ℕ
  d = le_signed denominator_bytes (vertex_cell t v 2)

  two_long : length (x ++ y) ≡ 2 * coordinate_bytes
  two_long = length-append x y ∙ (λ i. length-le_signed coordinate_bytes (vertex_cell t v 0) i + length-le_signed coordinate_bytes (vertex_cell t v 1) i)

  pub vertex_long : length (vertex_bytes layout t v) ≡ vertex_size layout
  vertex_long = length-append (x ++ y) d ∙ (λ i. two_long i + length-le_signed denominator_bytes (vertex_cell t v 2) i)

  pub vertex-put : (s p q u : List ℕ) (at : ℕ) → p ≡ sets s at x → q ≡ sets p (at + coordinate_bytes) y → u ≡ sets q (at + 2 * coordinate_bytes) d → u ≡ sets s at (vertex_bytes layout t v)
  vertex-put s p q u at e f g =
      then-behind s at (x ++ y) d q u (at + 2 * coordinate_bytes)
      (then-behind s at x y p q (at + coordinate_bytes) e f (ap (λ (k : ℕ). at + k) (sym (length-le_signed coordinate_bytes (vertex_cell t v 0)))))
      g (ap (λ (k : ℕ). at + k) (sym two_long))

-- ── the file ──

module _ (c : Counts) (t : Tables) where
  abbrev head : List ℕ
  head = ascii "ZOV" ++ gather (le 2) (head_fields c)

  abbrev vertices : List ℕ
  vertices = rows (vertex_bytes layout t) c.vertices

  abbrev edges : List ℕ
  edges = rows (edge_bytes t) c.edges

  abbrev faces : List ℕ
  faces = rows (face_bytes t) c.faces

  vertices_long : length (head ++ vertices) ≡ edges_at layout c
  vertices_long = rw (length-append head vertices, length-rows (vertex_size layout) (vertex_bytes layout t) c.vertices (λ v l. vertex_long t v))

  edges_long : length ((head ++ vertices) ++ edges) ≡ faces_at layout c
  edges_long = rw (length-append (head ++ vertices) edges, vertices_long, length-rows (edge_size layout) (edge_bytes t) c.edges (λ k l. refl))

  faces_long : length (((head ++ vertices) ++ edges) ++ faces) ≡ file_length layout c
  faces_long = rw (length-append ((head ++ vertices) ++ edges) faces, edges_long, length-rows (face_size layout) (face_bytes t) c.faces (λ f l. refl))

  whole : ((head ++ vertices) ++ edges) ++ faces ≡ overlay_file (length layouts) layout c t
  unfolding overlay_file
  whole = refl

  -- part after part from the start of d on, and zeros past the last
  pub file-put : (d a b e f u : List ℕ) (k : ℕ) → a ≡ sets d 0 head → b ≡ sets a overlay_head vertices → e ≡ sets b (edges_at layout c) edges → f ≡ sets e (faces_at layout c) faces
      → u ≡ wiped 0 k f → k ≡ file_length layout c → file_length layout c ≤ length d → u ≡ padded 0 (length d) (overlay_file (length layouts) layout c t)
  file-put d a b e f u k p q r s w z l =
      let v = then-behind d 0 head vertices a b overlay_head p q refl in
      let g = then-behind d 0 (head ++ vertices) edges b e (edges_at layout c) v r (sym vertices_long ∙ sym (zero-add (length (head ++ vertices)))) in
      let h = then-behind d 0 ((head ++ vertices) ++ edges) faces e f (faces_at layout c) g s (sym edges_long ∙ sym (zero-add (length ((head ++ vertices) ++ edges)))) in
      stored-wiped 0 d (((head ++ vertices) ++ edges) ++ faces) f u k (rw faces_long l) h w (z ∙ sym faces_long) ∙ ap (padded 0 (length d)) whole
