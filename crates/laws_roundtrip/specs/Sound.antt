-- What 01 asks of a vertex and of an edge record, as facts: each test of the definitions holds exactly where the facts do (`sound_is` and `is_sound`, and the writer's own
-- `edge_is`, `is_edge`, `vertex_is`, `is_vertex`). Assumes nothing.
use Rattle.std.specs.Prelude.{◌≡◌, ◌<◌, ◌&&◌, ◌||◌, ◌+◌, ◌*◌, ◌^◌, ◌-ℤ◌}
use Rattle.std.proofs.Common.{sym, ◌∙◌, ap, ltb-true, lt-ltb, leb-false, eqb-true, eq-eqb, ne_eqb}
use Rattle.std.proofs.lemmas.Bool.{lt-leb, eqb-false}
use Rattle.exact.specs.Tests.{eq_t, t_eq, eq-sign}
use Rattle.seq.specs.Seq.{Bool, true, false, not, ℕ, leb, ltb, eqb, pos, the_some_below}
use Rattle.seq.specs.Tests.{or_false, and_both, and_parts, false_or, was-false, was-true}
use Rattle.seq.proofs.Least.{some_has, some_witness, no_some, no_some_is}
use Rattle.paper.specs.Limits.{denominator_bytes}
use Rattle.paper.specs.Plane.{is_zer, sgn}
use Rattle.paper.specs.Graph.{twin}
use Rattle.paper.specs.Bytes.{the_fits_signed, fits_unsigned}
use Rattle.paper.specs.Tables.{vertex_cell, origin_of, twin_of, follower_of, predecessor_of, face_of, source_cell, Counts, Tables}
use Rattle.paper.specs.Ovfile.{Layout, sound_follower, has_source, sound_edge, least_start}
use Rattle.paper.specs.Writer.{bad_vertex, bad_half, wide_source, bad_edge}

-- ── sound edge records ──

-- "each follower is a half-edge of the file, starts where its half-edge ends, and follows no half-edge of lower number"
pub record SoundHalf (c : Counts) (t : Tables) (h : ℕ) : Type 0 where
  pub below : follower_of t h < 2 * c.edges
  pub starts : origin_of t (follower_of t h) ≡ origin_of t (twin h)
  pub first : (j : ℕ) → j < h → follower_of t j ≡ follower_of t h → ⊥

pub record SoundEdge (n : ℕ) (c : Counts) (t : Tables) (k : ℕ) : Type 0 where
  pub rises : origin_of t (2 * k) < origin_of t (2 * k + 1)
  pub upper_below : origin_of t (2 * k + 1) < c.vertices
  pub sourced : (i : ℕ) × (i < n) × (source_cell n t k i ≡ 0 → ⊥)
  pub left_face_lem : face_of t (2 * k) < c.faces
  pub right_face_lem : face_of t (2 * k + 1) < c.faces
  pub there : SoundHalf c t (2 * k)
  pub back : SoundHalf c t (2 * k + 1)

module _ (n : ℕ) (c : Counts) (t : Tables) where
  module _ (h : ℕ) where
    abbrev taken : ℕ → Bool
    taken j = eqb (follower_of t j) (follower_of t h)

    half_is : sound_follower c t h ≡ true → SoundHalf c t h
    half_is e =
        let (a, r) = and_parts (ltb (follower_of t h) (2 * c.edges)) (eqb (origin_of t (follower_of t h)) (origin_of t (twin h)) && not (the_some_below taken h)) e in
        let (b, d) = and_parts (eqb (origin_of t (follower_of t h)) (origin_of t (twin h))) (not (the_some_below taken h)) r in
        record {
          below = ltb-true (follower_of t h) (2 * c.edges) a;
          starts = eqb-true (origin_of t (follower_of t h)) (origin_of t (twin h)) b;
          first = λ j l. eqb-false (follower_of t j) (follower_of t h) (no_some_is taken h (was-false (the_some_below taken h) d) j l);
        }

    is_half : SoundHalf c t h → sound_follower c t h ≡ true
    is_half S =
        and_both {a = ltb (follower_of t h) (2 * c.edges)} (lt-ltb (follower_of t h) (2 * c.edges) S.below)
        (and_both {a = eqb (origin_of t (follower_of t h)) (origin_of t (twin h))} (eq-eqb (origin_of t (follower_of t h)) (origin_of t (twin h)) S.starts)
        (ap not (no_some taken h (λ j l. ne_eqb (follower_of t j) (follower_of t h) (S.first j l)))))

  module _ (k : ℕ) where
    abbrev given : ℕ → Bool
    given i = not (eqb (source_cell n t k i) 0)

    source_is : has_source n t k ≡ true → (i : ℕ) × (i < n) × (source_cell n t k i ≡ 0 → ⊥)
    source_is e = let (i, l, p) = some_witness given n e in (i, l, eqb-false (source_cell n t k i) 0 (was-false (eqb (source_cell n t k i) 0) p))

    is_source : (i : ℕ) × (i < n) × (source_cell n t k i ≡ 0 → ⊥) → has_source n t k ≡ true
    is_source (i, l, p) = some_has given n i l (ap not (ne_eqb (source_cell n t k i) 0 p))

    abbrev rise : Bool
    rise = ltb (origin_of t (2 * k)) (origin_of t (2 * k + 1))

    abbrev upper : Bool
    upper = ltb (origin_of t (2 * k + 1)) c.vertices

    abbrev left_face : Bool
    left_face = ltb (face_of t (2 * k)) c.faces

    abbrev right_face : Bool
    right_face = ltb (face_of t (2 * k + 1)) c.faces

    abbrev followers_sound : Bool
    followers_sound = sound_follower c t (2 * k) && sound_follower c t (2 * k + 1)

    pub sound_is : sound_edge n c t k ≡ true → SoundEdge n c t k
    sound_is e =
        let (os, r) = and_parts (rise && upper) (has_source n t k && ((left_face && right_face) && followers_sound)) e in
        let (lo, up) = and_parts rise upper os in
        let (so, q) = and_parts (has_source n t k) ((left_face && right_face) && followers_sound) r in
        let (fs, hs) = and_parts (left_face && right_face) followers_sound q in
        let (lf, rf) = and_parts left_face right_face fs in
        let (a, b) = and_parts (sound_follower c t (2 * k)) (sound_follower c t (2 * k + 1)) hs in
        record {
          rises = ltb-true (origin_of t (2 * k)) (origin_of t (2 * k + 1)) lo;
          upper_below = ltb-true (origin_of t (2 * k + 1)) c.vertices up;
          sourced = source_is so;
          left_face_lem = ltb-true (face_of t (2 * k)) c.faces lf;
          right_face_lem = ltb-true (face_of t (2 * k + 1)) c.faces rf;
          there = half_is (2 * k) a;
          back = half_is (2 * k + 1) b;
        }

    pub is_sound : SoundEdge n c t k → sound_edge n c t k ≡ true
    is_sound S =
        and_both {a = rise && upper} (and_both {a = rise} (lt-ltb (origin_of t (2 * k)) (origin_of t (2 * k + 1)) S.rises) (lt-ltb (origin_of t (2 * k + 1)) c.vertices S.upper_below))
        (and_both {a = has_source n t k} (is_source S.sourced)
        (and_both {a = left_face && right_face} (and_both {a = left_face} (lt-ltb (face_of t (2 * k)) c.faces S.left_face_lem) (lt-ltb (face_of t (2 * k + 1)) c.faces S.right_face_lem))
        (and_both {a = sound_follower c t (2 * k)} (is_half (2 * k) S.there) (is_half (2 * k + 1) S.back))))

-- ── what the writer asks besides ──

-- of a half-edge: its twin is the other of its edge, and its predecessor "a half-edge of the tables that has it as follower"
pub record GoodHalf (c : Counts) (t : Tables) (h : ℕ) : Type 0 where
  pub twin_is : twin_of t h ≡ twin h
  pub predecessor_below : predecessor_of t h < 2 * c.edges
  pub forth : follower_of t (predecessor_of t h) ≡ h

pub record GoodEdge (n : ℕ) (c : Counts) (t : Tables) (k : ℕ) : Type 0 where
  pub sound : SoundEdge n c t k
  pub narrow : (i : ℕ) → i < n → source_cell n t k i < 256 ^ 2
  pub good-there : GoodHalf c t (2 * k)
  pub good_back : GoodHalf c t (2 * k + 1)

module _ (n : ℕ) (c : Counts) (t : Tables) where
  module _ (h : ℕ) where
    abbrev other_one : Bool
    other_one = eqb (twin_of t h) (twin h)

    abbrev precedes : Bool
    precedes = ltb (predecessor_of t h) (2 * c.edges) && eqb (follower_of t (predecessor_of t h)) h

    half-good : bad_half c t h ≡ false → GoodHalf c t h
    half-good e =
        let (a, r) = and_parts other_one precedes (was-true (other_one && precedes) e) in
        let (b, d) = and_parts (ltb (predecessor_of t h) (2 * c.edges)) (eqb (follower_of t (predecessor_of t h)) h) r in
        record {
          twin_is = eqb-true (twin_of t h) (twin h) a;
          predecessor_below = ltb-true (predecessor_of t h) (2 * c.edges) b;
          forth = eqb-true (follower_of t (predecessor_of t h)) h d;
        }

    good-half : GoodHalf c t h → bad_half c t h ≡ false
    good-half G =
        ap not (and_both {a = other_one} (eq-eqb (twin_of t h) (twin h) G.twin_is)
        (and_both {a = ltb (predecessor_of t h) (2 * c.edges)} (lt-ltb (predecessor_of t h) (2 * c.edges) G.predecessor_below) (eq-eqb (follower_of t (predecessor_of t h)) h G.forth)))

  module _ (k : ℕ) where
    abbrev wide : ℕ → Bool
    wide i = leb (256 ^ 2) (source_cell n t k i)

    pub edge_is : bad_edge n c t k ≡ false → GoodEdge n c t k
    edge_is e =
        let (a, b) = or_false (not (sound_edge n c t k) || wide_source n t k) (bad_half c t (2 * k) || bad_half c t (2 * k + 1)) e in
        let (so, na) = or_false (not (sound_edge n c t k)) (wide_source n t k) a in
        let (p, q) = or_false (bad_half c t (2 * k)) (bad_half c t (2 * k + 1)) b in
        record {
          sound = sound_is n c t k (was-true (sound_edge n c t k) so);
          narrow = λ i l. leb-false (256 ^ 2) (source_cell n t k i) (no_some_is wide n na i l);
          good-there = half-good (2 * k) p;
          good_back = half-good (2 * k + 1) q;
        }

    pub is_edge : GoodEdge n c t k → bad_edge n c t k ≡ false
    is_edge G = false_or (false_or (ap not (is_sound n c t k G.sound)) (no_some wide n (λ i l. lt-leb (256 ^ 2) (source_cell n t k i) (G.narrow i l)))) (false_or (good-half (2 * k) G.good-there) (good-half (2 * k + 1) G.good_back))

-- "a vertex's X, Y or D does not fit its bytes", "outgoing entry is not the least half-edge with that origin"
pub record GoodVertex (l : Layout) (c : Counts) (t : Tables) (v : ℕ) : Type 0 where
  pub x_fits : the_fits_signed l.coordinate (vertex_cell t v 0) ≡ true
  pub y_fits_lem : the_fits_signed l.coordinate (vertex_cell t v 1) ≡ true
  pub d_fits_lem : fits_unsigned denominator_bytes (vertex_cell t v 2) ≡ true
  pub out_is_lem : vertex_cell t v 3 ≡ pos (least_start c t v)

module _ (l : Layout) (c : Counts) (t : Tables) (v : ℕ) where
  abbrev the_x_fits : Bool
  the_x_fits = the_fits_signed l.coordinate (vertex_cell t v 0)

  abbrev y_fits : Bool
  y_fits = the_fits_signed l.coordinate (vertex_cell t v 1)

  abbrev d_fits : Bool
  d_fits = fits_unsigned denominator_bytes (vertex_cell t v 2)

  abbrev out_is : Bool
  out_is = is_zer (sgn (vertex_cell t v 3 -ℤ pos (least_start c t v)))

  pub vertex_is : bad_vertex l c t v ≡ false → GoodVertex l c t v
  vertex_is e =
      let (x, r) = and_parts the_x_fits (y_fits && (d_fits && out_is)) (was-true (the_x_fits && (y_fits && (d_fits && out_is))) e) in
      let (y, q) = and_parts y_fits (d_fits && out_is) r in
      let (d, o) = and_parts d_fits out_is q in
      record { x_fits = x; y_fits_lem = y; d_fits_lem = d; out_is_lem = eq_t (vertex_cell t v 3) (pos (least_start c t v)) (eq-sign (vertex_cell t v 3) (pos (least_start c t v)) ∙ o) }

  pub is_vertex : GoodVertex l c t v → bad_vertex l c t v ≡ false
  is_vertex G =
      ap not (and_both {a = the_x_fits} G.x_fits (and_both {a = y_fits} G.y_fits_lem
      (and_both {a = d_fits} G.d_fits_lem (sym (eq-sign (vertex_cell t v 3) (pos (least_start c t v))) ∙ t_eq G.out_is_lem))))
