-- The tables of an overlay are what the overlay file's writer asks for: every edge record is sound, twins, predecessors and least outgoing half-edges are those worked out, and
-- every number fits its bytes. Of any list of maps that keep the rules; the bounds on numbers where the maps are within 01's limits. Assumes nothing.
use Rattle.std.specs.Prelude.{◌≡◌, ◌<◌, ◌≤◌, ◌<ℤ◌, ◌+◌, ◌*◌, ◌/◌, ◌^◌}
use Rattle.std.proofs.Common.{sym, ◌∙◌, ap, subst, arith, lt-ltb}
use Rattle.std.proofs.Math.Decide.{dec_lt}
use Rattle.std.specs.Int.Signed.{mag}
use Rattle.seq.specs.Seq.{true, cond, List, ℕ, zero, suc, ltb, eqb, length, ℤ, pos, negsuc, nat_abs}
use Rattle.seq.specs.Terms.{Every}
use Rattle.seq.specs.Least.{least-ext}
use Rattle.seq.specs.Members.{at_among, every_in}
use Rattle.paper.specs.Limits.{absent, reach, denominators, denominator_bytes, overlay_vertices, overlay_edges}
use Rattle.paper.specs.Plane.{whole, nowhere}
use Rattle.paper.specs.Bytes.{the_fits_signed, fits_unsigned}
use Rattle.paper.specs.Graph.{twin, leaves, point}
use Rattle.paper.specs.Map.{Map, label}
use Rattle.paper.specs.Pieces.{layer, vertices_of}
use Rattle.paper.specs.Faces.{net, sources_of, overlay_of, Overlay}
use Rattle.paper.specs.Tables.{vertex_cell, origin_of, twin_of, face_cell, counts_of, tables_of, Counts, Tables}
use Rattle.paper.specs.Lent.{lengths_of}
use Rattle.paper.specs.Ovfile.{Layout, least_start}
use Rattle.laws_plane.specs.Bounds.{Bounded}
use Rattle.laws_map.specs.Keeps.{edges}
use Rattle.laws_overlay.specs.Maps.{AllKeep}
use Rattle.laws_overlay.specs.Places.{places}
use Rattle.laws_overlay.proofs.Net.{sourced}
use Rattle.laws_overlay.specs.Cells.{vertex-cell, half-cell, vertices_long, halves_long, sources_long, faces_long, least-cell}
use Rattle.laws_overlay.specs.Parts.{edge-count, sources-are, twin_is}
use Rattle.laws_overlay.proofs.Named.{half-named, followed-once, edge-named}
use Rattle.laws_overlay.specs.Fits.{holes-fit, face-label_fits}
use Rattle.laws_overlay.proofs.Fits.{least_fits}
use Rattle.laws_roundtrip.specs.Sound.{SoundHalf, SoundEdge, GoodHalf, GoodEdge, GoodVertex}
use Rattle.laws_roundtrip.specs.ReadCells.{exact_lengths}
use Rattle.laws_roundtrip.specs.ReadWritten.{FacesFit}

-- ── numbers that fit ──

mag-le : (z : ℤ) → mag z ≤ nat_abs z
mag-le (pos n) = omega arith
mag-le (negsuc n) = omega arith

pub fits_signed : (w : ℕ) (z : ℤ) → nat_abs z < 256 ^ w / 2 → the_fits_signed w z ≡ true
fits_signed w z l = lt-ltb (mag z) (256 ^ w / 2) (omega (arith, mag-le z))

pub fits_unsigned_lem : (w : ℕ) (z : ℤ) → pos 0 <ℤ z → nat_abs z < 256 ^ w → fits_unsigned w z ≡ true
fits_unsigned_lem w (pos n) h l = lt-ltb n (256 ^ w) l
fits_unsigned_lem w (negsuc n) h l = absurd h.lt

module _ (ms : List Map) (K : AllKeep ms) where
  abbrev o : Overlay
  o = overlay_of ms

  abbrev c : Counts
  c = counts_of (overlay_of ms)

  abbrev t : Tables
  t = tables_of ms (overlay_of ms)

  -- ── half-edges ──

  module _ (h : ℕ) (l : h < 2 * (counts_of (overlay_of ms)).edges) where
    twin-cell : twin_of t h ≡ twin h
    twin-cell = twin_is ms h (subst (λ (n : ℕ). h < 2 * n) (edge-count ms) l)

    pub sound-half : SoundHalf (counts_of (overlay_of ms)) (tables_of ms (overlay_of ms)) h
    sound-half = record {
      below = (half-named ms K h l).follower_below;
      starts = (half-named ms K h l).follows ∙ ap (origin_of t) twin-cell;
      first = λ j m e. omega (arith, followed-once ms K j h (omega arith) l e);
    }

    pub good-half : GoodHalf (counts_of (overlay_of ms)) (tables_of ms (overlay_of ms)) h
    good-half = record { twin_is = twin-cell; predecessor_below = (half-named ms K h l).predecessor_below; forth = (half-named ms K h l).forth }

  -- ── edges ──

  module _ (k : ℕ) (l : k < (counts_of (overlay_of ms)).edges) where
    pub sound-edge : SoundEdge (length ms) (counts_of (overlay_of ms)) (tables_of ms (overlay_of ms)) k
    sound-edge = record {
      rises = (edge-named ms K k l).rises;
      upper_below = (half-named ms K (2 * k + 1) (omega arith)).origin_below;
      sourced = (edge-named ms K k l).sourced;
      left_face_lem = (half-named ms K (2 * k) (omega arith)).face_below;
      right_face_lem = (half-named ms K (2 * k + 1) (omega arith)).face_below;
      there = sound-half (2 * k) (omega arith);
      back = sound-half (2 * k + 1) (omega arith);
    }

    -- where no map has 65,536 edges
    pub good-edge : ((i : ℕ) → i < length ms → edges (layer ms i) < 256 ^ 2) → GoodEdge (length ms) (counts_of (overlay_of ms)) (tables_of ms (overlay_of ms)) k
    good-edge few = record {
      sound = sound-edge;
      narrow = λ i m. omega (arith, (edge-named ms K k l).source-most i m, few i m);
      good-there = good-half (2 * k) (omega arith);
      good_back = good-half (2 * k + 1) (omega arith);
    }

  -- ── vertices ──

  module _ (v : ℕ) (l : v < (counts_of (overlay_of ms)).vertices) where
    -- "each with its least outgoing half-edge"
    pub out_is_lem : vertex_cell (tables_of ms (overlay_of ms)) v 3 ≡ pos (least_start (counts_of (overlay_of ms)) (tables_of ms (overlay_of ms)) v)
    out_is_lem =
        vertex-cell ms o v 3 l (omega arith)
        ∙ ap (λ (h : ℕ). pos (cond (ltb h (2 * c.edges)) h absent))
        (least-ext (leaves (net o) v) (λ h. eqb (origin_of t h) v) (2 * c.edges) (λ h m. ap (λ (x : ℕ). eqb x v) (sym (half-cell ms o h 0 m (omega arith)))))

    module _ (B : Every Bounded (vertices_of ms)) where
      bounded : Bounded (point (net o) v)
      unfolding overlay_of
      bounded = every_in Bounded (vertices_of ms) B (point (net o) v) (at_among (vertices_of ms) v (whole nowhere) l)

      -- where the coordinates have bytes enough
      pub good-vertex : (y : Layout) → reach * denominators < 256 ^ y.coordinate / 2 → GoodVertex y (counts_of (overlay_of ms)) (tables_of ms (overlay_of ms)) v
      good-vertex y w =
          let p = point (net o) v in
          record {
            x_fits = ap (the_fits_signed y.coordinate) (vertex-cell ms o v 0 l (omega arith)) ∙ fits_signed y.coordinate p.X (omega (arith, bounded.x_le, bounded.d_le));
            y_fits_lem = ap (the_fits_signed y.coordinate) (vertex-cell ms o v 1 l (omega arith)) ∙ fits_signed y.coordinate p.Y (omega (arith, bounded.y_le, bounded.d_le));
            d_fits_lem = ap (fits_unsigned denominator_bytes) (vertex-cell ms o v 2 l (omega arith)) ∙ fits_unsigned_lem denominator_bytes p.D bounded.positive (omega (arith, bounded.d_le));
            out_is_lem = out_is_lem;
          }

  -- ── faces ──

  -- where labels are 16-bit numbers
  module _ (lv : (counts_of (overlay_of ms)).vertices ≤ overlay_vertices) (le : (counts_of (overlay_of ms)).edges ≤ overlay_edges) (L : (i h : ℕ) → label (layer ms i) h < 256 ^ 2) where
    least_by : (f : ℕ) → f < c.faces → face_cell (length ms) t f (length ms) < 256 ^ 2
    least_by zero b = omega (arith, least-cell ms o 0 b)
    least_by (suc f) b = omega (arith, least_fits ms K lv le f b)

    pub faces-fit : FacesFit (length ms) (counts_of (overlay_of ms)) (tables_of ms (overlay_of ms))
    faces-fit f j b m =
        elim (dec_lt j (length ms)) [
          | yes q ↦ face-label_fits ms (256 ^ 2) (omega arith) L f j b q
          | no q ↦ elim (dec_lt j (length ms + 1)) [
            | yes r ↦ let e : length ms ≡ j = omega arith in subst (λ (i : ℕ). face_cell (length ms) t f i < 256 ^ 2) e (least_by f b)
            | no r ↦
                let e : length ms + 1 ≡ j = omega arith in
                let h : face_cell (length ms) t f (length ms + 1) < 256 ^ 2 = omega (arith, holes-fit ms K lv le f b) in
                subst (λ (i : ℕ). face_cell (length ms) t f i < 256 ^ 2) e h
          ]
        ]

  -- ── how many cells ──

  sources-wide : (k : ℕ) → k < c.edges → length (sources_of o k) ≡ length ms
  sources-wide k l = ap length (sources-are ms k) ∙ (sourced ms K (vertices_of ms) (places ms K) k (subst (λ (n : ℕ). k < n) (edge-count ms) l)).width

  pub table-lengths : lengths_of (tables_of ms (overlay_of ms)) ≡ exact_lengths (length ms) (counts_of (overlay_of ms))
  table-lengths i = record {
    vertices = vertices_long ms o i;
    halves = halves_long ms o i;
    sources = sources_long ms o sources-wide i;
    faces = faces_long ms o i;
  }
