-- What was read is good to write: the vertices and edges of the tables that the reader makes keep what the writer asks (`good-vertex`, `good-edge`), and the faces hold 16-bit numbers (`read-faces-fit`). Into
-- tables of n maps, from a file of any layout; a vertex is good in every layout with at least as many bytes for a coordinate. Assumes nothing.
use Rattle.std.specs.Prelude.{◌≡◌, ◌<◌, ◌≤◌, ◌+◌, ◌*◌, ◌/◌, ◌^◌}
use Rattle.std.proofs.Common.{sym, ◌∙◌, ap, subst, not-suc-le-zero, arith, lt-ltb, ltb-true}
use Rattle.std.proofs.Math.Nat.{pow-le-pow_right}
use Rattle.std.proofs.Math.Decide.{dec_lt}
use Rattle.std.specs.Int.Signed.{mag}
use Rattle.seq.specs.Seq.{Bool, true, false, cond, List, ℕ, zero, suc, ltb, eqb, ℤ, pos, table, position}
use Rattle.seq.specs.Least.{least-ext}
use Rattle.seq.specs.Table.{table_at, table-ext}
use Rattle.paper.specs.Limits.{absent, denominator_bytes}
use Rattle.paper.specs.Bytes.{number, signed_at, the_fits_signed, fits_unsigned}
use Rattle.paper.specs.Tables.{origin_of, follower_of, predecessor_of, face_cell, Counts, Tables}
use Rattle.paper.specs.Lent.{Lengths}
use Rattle.paper.specs.Ovfile.{Layout}
use Rattle.paper.specs.Reader.{counts_in, edge_field, face_field, stored_origin, stored_follower, tables_in}
use Rattle.laws_file.specs.Bytes.{Bytes, number_below, signed_fits}
use Rattle.laws_file.specs.Placed.{vertex_at, the_edge_at, face_at}
use Rattle.laws_roundtrip.specs.Sound.{GoodHalf, GoodEdge, GoodVertex}
use Rattle.laws_roundtrip.specs.Accepts.{Reads}
use Rattle.laws_roundtrip.specs.ReadCells.{followers_in, vertex-cell, half-cell, source-cell, label-cell, least-cell, holes-cell}
use Rattle.laws_roundtrip.specs.Halves.{position_below, position-follows}
use Rattle.laws_roundtrip.specs.ReadWritten.{FacesFit, least_of-table}

-- ── numbers and their bytes ──

signed_fits-wide : (w : ℕ) (s : List ℕ) (i : ℕ) → 0 < w → Bytes s → the_fits_signed w (signed_at w s i) ≡ true
signed_fits-wide zero s i l h = absurd (not-suc-le-zero l)
signed_fits-wide (suc w) s i l h = signed_fits w s i h

-- what fits v bytes fits more
wider : (m v w : ℕ) → v ≤ w → ltb m (256 ^ v / 2) ≡ true → ltb m (256 ^ w / 2) ≡ true
wider m v w h e = lt-ltb m (256 ^ w / 2) (omega (arith, ltb-true m (256 ^ v / 2) e, pow-le-pow_right {n = 256} (omega arith) {i = v} {j = w} h))

fits_wider : (v w : ℕ) (z : ℤ) → v ≤ w → the_fits_signed v z ≡ true → the_fits_signed w z ≡ true
fits_wider v w z = wider (mag z) v w

-- a number of two bytes, or 0 where it is missing
or_missing : (b : Bool) (x : ℕ) → x < 256 ^ 2 → cond b x 0 < 256 ^ 2
or_missing true x h = h
or_missing false x h = omega arith

module _ (n : ℕ) (lo : Layout) (s : List ℕ) (B : Bytes s) where
  abbrev c : Counts
  c = counts_in s

  abbrev u : Tables
  u = tables_in n lo s

  -- ── half-edges ──

  module _ (h : ℕ) (b : h < 2 * (counts_in s).edges) where
    pub origin_is : origin_of (tables_in n lo s) h ≡ stored_origin lo s h
    origin_is = half-cell n lo s h 0 b (omega arith)

    pub follower_is : follower_of (tables_in n lo s) h ≡ stored_follower lo s h
    follower_is = half-cell n lo s h 2 b (omega arith) ∙ table_at (stored_follower lo s) (2 * c.edges) h 0 b

  followers-are : followers_in lo s ≡ table (follower_of u) (2 * c.edges)
  followers-are = sym (table-ext (follower_of u) (stored_follower lo s) (2 * c.edges) follower_is)

  -- ── vertices ──

  pub good-vertex : 0 < lo.coordinate → (l : Layout) → lo.coordinate ≤ l.coordinate → (v : ℕ) → v < (counts_in s).vertices → GoodVertex l (counts_in s) (tables_in n lo s) v
  good-vertex some_bytes l more v b =
      let w = lo.coordinate in
      let i = vertex_at lo v in
      let fit : (j : ℕ) → the_fits_signed l.coordinate (signed_at w s j) ≡ true = λ j. fits_wider w l.coordinate (signed_at w s j) more (signed_fits-wide w s j some_bytes B) in
      record {
        x_fits = ap (the_fits_signed l.coordinate) (vertex-cell n lo s v 0 b (omega arith)) ∙ fit i;
        y_fits_lem = ap (the_fits_signed l.coordinate) (vertex-cell n lo s v 1 b (omega arith)) ∙ fit (i + w);
        d_fits_lem = ap (fits_unsigned denominator_bytes) (vertex-cell n lo s v 2 b (omega arith)) ∙ lt-ltb (number denominator_bytes s (i + 2 * w)) (256 ^ denominator_bytes) (number_below denominator_bytes s (i + 2 * w) B);
        out_is_lem = vertex-cell n lo s v 3 b (omega arith) ∙ ap pos (least_of-table (stored_origin lo s) (2 * c.edges) v
            ∙ ap (λ (h : ℕ). cond (ltb h (2 * c.edges)) h absent) (least-ext (λ h. eqb (stored_origin lo s h) v) (λ h. eqb (origin_of u h) v) (2 * c.edges) (λ h m. ap (λ (x : ℕ). eqb x v) (sym (origin_is h m)))));
      }

  -- ── edges, of a file that is not refused ──

  module _ (versions : ℕ) (ls : Lengths) (R : Reads n versions lo ls s (tables_in n lo s)) where
    good-half : (h : ℕ) → h < 2 * c.edges → GoodHalf c u h
    good-half h b =
        let e : predecessor_of u h ≡ position h (table (follower_of u) (2 * c.edges)) = half-cell n lo s h 3 b (omega arith) ∙ ap (position h) followers-are in
        record {
          twin_is = half-cell n lo s h 1 b (omega arith);
          predecessor_below = subst (λ (p : ℕ). p < 2 * c.edges) (sym e) (position_below n c u R.sound h b);
          forth = ap (follower_of u) e ∙ position-follows n c u R.sound h b;
        }

    pub good-edge : (k : ℕ) → k < (counts_in s).edges → GoodEdge n (counts_in s) (tables_in n lo s) k
    good-edge k b = record {
      sound = R.sound k b;
      narrow = λ i m. subst (λ (x : ℕ). x < 256 ^ 2) (sym (source-cell n lo s k i b m)) (or_missing (ltb i lo.maps) (edge_field lo s k (2 + i)) (number_below 2 s (the_edge_at lo c k + 2 * (2 + i)) B));
      good-there = good-half (2 * k) (omega arith);
      good_back = good-half (2 * k + 1) (omega arith);
    }

  -- ── faces ──

  field_fits : (f j : ℕ) → face_field lo s f j < 256 ^ 2
  field_fits f j = number_below 2 s (face_at lo c f + 2 * j) B

  pub read-faces-fit : FacesFit n (counts_in s) (tables_in n lo s)
  read-faces-fit f j b m =
      elim (dec_lt j n) [
        | yes q ↦ at (sym (label-cell n lo s f b j q)) (or_missing (ltb j lo.maps) (face_field lo s f j) (field_fits f j))
        | no q ↦ elim (dec_lt j (n + 1)) [
          | yes r ↦ let e : n ≡ j = omega arith in at (sym (least-cell n lo s f b) ∙ ap (face_cell n u f) e) (field_fits f lo.maps)
          | no r ↦ let e : n + 1 ≡ j = omega arith in at (sym (holes-cell n lo s f b) ∙ ap (face_cell n u f) e) (field_fits f (1 + lo.maps))
        ]
      ]
    where
      at : {x : ℕ} → x ≡ face_cell n u f j → x < 256 ^ 2 → face_cell n u f j < 256 ^ 2
      at e h = subst (λ (y : ℕ). y < 256 ^ 2) e h
