-- Of Fields of specs/, what rests on its definitions.
use Rattle.std.specs.Prelude.{◌≡◌, ◌<◌, ◌∷◌, ◌+◌, ◌*◌, ◌/◌, ◌%◌, ◌^◌}
use Rattle.std.proofs.Common.{◌∙◌, ap, arith, ltb-true, lt-ltb}
use Rattle.seq.specs.Seq.{Bool, true, cond, List, [], ℕ, get_or, ℤ, pos, negsuc}
use Rattle.seq.specs.Tests.{never}
use Rattle.paper.specs.Limits.{denominator_bytes}
use Rattle.paper.specs.Bytes.{number, u16, signed_at, le_signed, the_fits_signed, fits_unsigned}
use Rattle.paper.specs.Tables.{face_width, vertex_cell, origin_of, follower_of, face_of, source_cell, face_cell, Counts, Tables}
use Rattle.paper.specs.Ovfile.{Layout, edge_fields}
use Rattle.paper.specs.Reader.{counts_in, edge_field, face_field, stored_origin, stored_follower, stored_face, stored_source, stored_label}
use Rattle.laws_file.specs.Bytes.{Stands, number_of}
use Rattle.laws_file.proofs.Bytes.{signed_of}
use Rattle.laws_file.specs.Placed.{vertex_at, the_edge_at, face_at, edge_width, Placed}
use Rattle.laws_file.specs.EdgeFields.{field-origin, field-source, field-follower, field-face}

-- an unsigned number that is stored as a whole number
pub unsigned_of : (w : ℕ) (s : List ℕ) (i : ℕ) (z : ℤ) → fits_unsigned w z ≡ true → Stands s i (le_signed w z) → pos (number w s i) ≡ z
unsigned_of w s i (pos n) f h = ap pos (number_of w n s i (ltb-true n (256 ^ w) f) h)
unsigned_of w s i (negsuc n) f h = never f

module _ (version : ℕ) (l : Layout) (c : Counts) (t : Tables) (s : List ℕ) (P : Placed version l c t s) where
  -- ── mark, version and counts ──

  pub version-read : version < 256 ^ 2 → u16 s 3 ≡ version
  version-read b = number_of 2 version s 3 b P.version_at

  pub counts-read : c.vertices < 256 ^ 2 → c.edges < 256 ^ 2 → c.faces < 256 ^ 2 → counts_in s ≡ c
  counts-read v e f i = record {
    vertices = number_of 2 c.vertices s 5 v P.vertices_at i;
    edges = number_of 2 c.edges s 7 e P.edges_at_lem i;
    faces = number_of 2 c.faces s 9 f P.faces_at_lem i;
  }

  -- ── vertices ──

  module _ (v : ℕ) (b : v < c.vertices) where
    pub x_read : the_fits_signed l.coordinate (vertex_cell t v 0) ≡ true → signed_at l.coordinate s (vertex_at l v) ≡ vertex_cell t v 0
    x_read f = signed_of l.coordinate s (vertex_at l v) (vertex_cell t v 0) f (P.x_at v b)

    pub y_read : the_fits_signed l.coordinate (vertex_cell t v 1) ≡ true → signed_at l.coordinate s (vertex_at l v + l.coordinate) ≡ vertex_cell t v 1
    y_read f = signed_of l.coordinate s (vertex_at l v + l.coordinate) (vertex_cell t v 1) f (P.y_at v b)

    pub d_read : fits_unsigned denominator_bytes (vertex_cell t v 2) ≡ true → pos (number denominator_bytes s (vertex_at l v + 2 * l.coordinate)) ≡ vertex_cell t v 2
    d_read f = unsigned_of denominator_bytes s (vertex_at l v + 2 * l.coordinate) (vertex_cell t v 2) f (P.d_at v b)

  -- ── edges and faces, where the counts are read ──

  module _ (q : counts_in s ≡ c) where
    pub edge-read : (k j : ℕ) → k < c.edges → j < edge_width l.maps → get_or (edge_fields l.maps t k) j 0 < 256 ^ 2 → edge_field l s k j ≡ get_or (edge_fields l.maps t k) j 0
    edge-read k j b m f = ap (λ (d : Counts). u16 s (the_edge_at l d k + 2 * j)) q ∙ number_of 2 (get_or (edge_fields l.maps t k) j 0) s (the_edge_at l c k + 2 * j) f (P.edge_at k j b m)

    pub face-read : (f j : ℕ) → f < c.faces → j < face_width l.maps → face_cell l.maps t f j < 256 ^ 2 → face_field l s f j ≡ face_cell l.maps t f j
    face-read f j b m u = ap (λ (d : Counts). u16 s (face_at l d f + 2 * j)) q ∙ number_of 2 (face_cell l.maps t f j) s (face_at l c f + 2 * j) u (P.face_at_lem f j b m)

    -- ── the fields of edges by name ──

    -- field j of edge k is x, of half-edge h
    named : (g : ℕ → ℕ) (h j : ℕ) → h < 2 * c.edges → j < edge_width l.maps → g h < 256 ^ 2 → get_or (edge_fields l.maps t (h / 2)) j 0 ≡ g (2 * (h / 2) + h % 2) → edge_field l s (h / 2) j ≡ g h
    named g h j b m u e =
        let i : 2 * (h / 2) + h % 2 ≡ h = omega arith in
        let r : get_or (edge_fields l.maps t (h / 2)) j 0 ≡ g h = e ∙ ap g i in
        edge-read (h / 2) j (omega arith) m (rw r u) ∙ r

    pub origin-read : (h : ℕ) → h < 2 * c.edges → origin_of t h < 256 ^ 2 → stored_origin l s h ≡ origin_of t h
    origin-read h b u = named (origin_of t) h (h % 2) b (omega arith) u (field-origin l.maps t (h / 2) (h % 2) (omega arith))

    pub follower-read : (h : ℕ) → h < 2 * c.edges → follower_of t h < 256 ^ 2 → stored_follower l s h ≡ follower_of t h
    follower-read h b u = named (follower_of t) h (2 + l.maps + h % 2) b (omega arith) u (field-follower l.maps t (h / 2) (h % 2) (omega arith))

    pub face_of-read : (h : ℕ) → h < 2 * c.edges → face_of t h < 256 ^ 2 → stored_face l s h ≡ face_of t h
    face_of-read h b u = named (face_of t) h (4 + l.maps + h % 2) b (omega arith) u (field-face l.maps t (h / 2) (h % 2) (omega arith))

    pub source-read : (k i : ℕ) → k < c.edges → i < l.maps → source_cell l.maps t k i < 256 ^ 2 → stored_source l s k i ≡ source_cell l.maps t k i
    source-read k i b m u =
        let e = field-source l.maps t k i m in
        ap (λ (x : Bool). cond x (edge_field l s k (2 + i)) 0) (lt-ltb i l.maps m) ∙ edge-read k (2 + i) b (omega arith) (rw e u) ∙ e

    pub label-read : (f i : ℕ) → f < c.faces → i < l.maps → face_cell l.maps t f i < 256 ^ 2 → stored_label l s f i ≡ face_cell l.maps t f i
    label-read f i b m u = ap (λ (x : Bool). cond x (face_field l s f i) 0) (lt-ltb i l.maps m) ∙ face-read f i b (omega arith) u
