-- The melted tables are "numbered afresh by 01's rules" (02, Ask 12): vertices in point order, each once, in lowest terms and within 01's bounds, each with its least outgoing half-edge, which it has (`melted-used`);
-- edges by lower, then upper number (`Ordered`, `melted-ordered`). From the rows; from the promise: Keeps. Assumes nothing.
use Rattle.std.specs.Prelude.{◌≡◌, ◌⊎◌, ◌<◌, ◌≤◌, ◌&&◌, ◌||◌, ◌+◌, ◌*◌}
use Rattle.std.proofs.Common.{sym, ◌∙◌, ap, subst, inl, inr, ⊎_elim, arith, eq-eqb, eqb-true, ltb-true, lt-ltb}
use Rattle.seq.specs.Seq.{Bool, true, cond, List, ℕ, eqb, ltb, length, pos, count, least}
use Rattle.seq.specs.Terms.{Every}
use Rattle.seq.specs.Tests.{or_cases, and_parts}
use Rattle.seq.proofs.Least.{some_witness, least_below, least-holds, least_at_most}
use Rattle.seq.specs.Members.{at_among, every_in}
use Rattle.paper.specs.Limits.{absent}
use Rattle.paper.specs.Plane.{whole, nowhere, before, same}
use Rattle.paper.specs.Graph.{Graph, point_in, point, edge_count, the_half_count, origin, leaves}
use Rattle.paper.specs.Map.{Map}
use Rattle.paper.specs.Pieces.{Piece, earlier, vertices_of}
use Rattle.paper.specs.Faces.{overlay_of}
use Rattle.paper.specs.Tables.{Counts, Tables, vertex_cell, origin_of}
use Rattle.paper.specs.Melt.{kept_pieces, is_end, melted_pieces, melted_graph}
use Rattle.laws_plane.specs.Points.{LowestP, same_self}
use Rattle.laws_plane.specs.Bounds.{Bounded}
use Rattle.laws_overlay.specs.Maps.{AllKeep}
use Rattle.laws_overlay.specs.Places.{places, at_lowest}
use Rattle.laws_overlay.specs.Pieces.{piece_at}
use Rattle.laws_overlay.specs.Inside.{overlaid}
use Rattle.laws_melt.specs.Part.{Part}
use Rattle.laws_melt.specs.Thin.{was, stood, stood-nth, piece-was, melted-piece, edges_long, pieces_long, melted-part}
use Rattle.laws_melt.specs.Stored.{melted-vertices, melted-pieces}
use Rattle.laws_promise.specs.Defined.{the_point_at}
use Rattle.laws_promise.specs.Rows.{Pieced, Rows}
use Rattle.laws_promise.specs.Nears.{low_end, high_end}
use Rattle.laws_melted.specs.Rows.{melted-pieced}

pub record Ordered (c : Counts) (t : Tables) : Type 0 where
  -- "Vertices stand in point order", each once
  pub in_order : (u v : ℕ) → u < v → v < c.vertices → before (the_point_at t u) (the_point_at t v) ≡ true
  pub once : (u v : ℕ) → u < c.vertices → v < c.vertices → the_point_at t u ≡ the_point_at t v → u ≡ v
  -- "divided by the greatest common divisor of the three", and within 01's bounds
  pub lowest : (v : ℕ) → v < c.vertices → LowestP (the_point_at t v)
  pub bounded : (v : ℕ) → v < c.vertices → Bounded (the_point_at t v)
  -- "each with its least outgoing half-edge"
  pub least_out : (v : ℕ) → v < c.vertices → (h : ℕ) × (vertex_cell t v 3 ≡ pos h) × (h < 2 * c.edges) × (origin_of t h ≡ v) × ((r : ℕ) → r < 2 * c.edges → origin_of t r ≡ v → h ≤ r)
  -- "sorted by lower, then upper vertex number", and so each once
  pub sorted : (k r : ℕ) → k < r → r < c.edges → (origin_of t (2 * k) < origin_of t (2 * r)) ⊎ ((origin_of t (2 * k) ≡ origin_of t (2 * r)) × (origin_of t (2 * k + 1) < origin_of t (2 * r + 1)))

earlier_is : (p q : Piece) → earlier p q ≡ true → (p.lo < q.lo) ⊎ ((p.lo ≡ q.lo) × (p.hi < q.hi))
earlier_is p q e = go (or_cases (ltb p.lo q.lo) (eqb p.lo q.lo && ltb p.hi q.hi) e)
  where
    go : (ltb p.lo q.lo ≡ true) ⊎ ((eqb p.lo q.lo && ltb p.hi q.hi) ≡ true) → (p.lo < q.lo) ⊎ ((p.lo ≡ q.lo) × (p.hi < q.hi))
    go (inl f) = inl (ltb-true p.lo q.lo f)
    go (inr f) = let r = and_parts (eqb p.lo q.lo) (ltb p.hi q.hi) f in inr (eqb-true p.lo q.lo r.0, ltb-true p.hi q.hi r.1)

module _ (ms : List Map) (K : AllKeep ms) (c : Counts) (t : Tables) (R : Rows ms (melted_pieces ms (overlay_of ms)) (melted_graph ms (overlay_of ms)) c t) where
  abbrev s : Graph
  s = melted_graph ms (overlay_of ms)

  abbrev mps : List Piece
  mps = melted_pieces ms (overlay_of ms)

  abbrev left : List Piece
  left = kept_pieces ms (overlay_of ms)

  abbrev S : Part (overlaid ms) s (was ms K) (stood ms K)
  S = melted-part ms K

  N : Pieced ms (melted_pieces ms (overlay_of ms)) (melted_graph ms (overlay_of ms))
  N = melted-pieced ms K

  in_vertices : {v : ℕ} → v < c.vertices → v < length s.points
  in_vertices {v} = subst (λ (z : ℕ). v < z) R.vertices-are

  of_edges : {k : ℕ} → k < edge_count s → k < c.edges
  of_edges {k} = subst (λ (z : ℕ). k < z) (sym R.edges_are)

  in_edges : {k : ℕ} → k < c.edges → k < edge_count s
  in_edges {k} = subst (λ (z : ℕ). k < z) R.edges_are

  -- no vertex is without an edge
  pub melted-used : (v : ℕ) → v < c.vertices → (h : ℕ) × (h < 2 * c.edges) × (origin_of t h ≡ v)
  melted-used v l =
      let r = stood-nth ms K v (in_vertices l) in
      let (k, lk, e) = some_witness (λ j. eqb (piece_at left j).lo (stood ms K v) || eqb (piece_at left j).hi (stood ms K v)) (length left) r.1 in
      let b : k < edge_count s = omega (arith, lk, edges_long ms K, pieces_long ms K) in
      let a : k < c.edges = of_edges b in
      ⊎_elim
      (λ q. (
        2 * k,
        omega arith,
        low_end ms mps s N c t R k a ∙ ap (λ (p : Piece). p.lo) (melted-piece ms K k b) ∙ ap (λ (p : Piece). count (is_end left) p.lo) (sym (piece-was ms K k b))
            ∙ ap (count (is_end left)) (eqb-true (piece_at left k).lo (stood ms K v) q) ∙ r.2,
      ))
      (λ q. (
        2 * k + 1,
        omega arith,
        high_end ms mps s N c t R k a ∙ ap (λ (p : Piece). p.hi) (melted-piece ms K k b) ∙ ap (λ (p : Piece). count (is_end left) p.hi) (sym (piece-was ms K k b))
            ∙ ap (count (is_end left)) (eqb-true (piece_at left k).hi (stood ms K v) q) ∙ r.2,
      ))
      (or_cases (eqb (piece_at left k).lo (stood ms K v)) (eqb (piece_at left k).hi (stood ms K v)) e)

  -- ── vertices ──

  point_old : (v : ℕ) → v < c.vertices → the_point_at t v ≡ point_in (vertices_of ms) (stood ms K v)
  point_old v l = R.point_is v l ∙ S.point_is v (in_vertices l)

  old_below : (v : ℕ) → v < c.vertices → stood ms K v < length (vertices_of ms)
  old_below v l = S.vertex_below v (in_vertices l)

  module _ (v : ℕ) (l : v < c.vertices) where
    abbrev first_out : ℕ
    first_out = least (leaves s v) (the_half_count s)

    out_below : first_out < the_half_count s
    out_below =
        let (r, b, e) = melted-used v l in
        least_below (leaves s v) (the_half_count s) r (subst (λ (z : ℕ). r < 2 * z) R.edges_are b) (eq-eqb (origin s r) v (sym (R.origin_at_lem r b) ∙ e))

    out_counted : first_out < 2 * c.edges
    out_counted = subst (λ (z : ℕ). first_out < 2 * z) (sym R.edges_are) out_below

    out : (h : ℕ) × (vertex_cell t v 3 ≡ pos h) × (h < 2 * c.edges) × (origin_of t h ≡ v) × ((r : ℕ) → r < 2 * c.edges → origin_of t r ≡ v → h ≤ r)
    out = (
      first_out,
      R.out_is_lem v l ∙ ap (λ (b : Bool). pos (cond b first_out absent)) (lt-ltb first_out (the_half_count s) out_below),
      out_counted,
      R.origin_at_lem first_out out_counted ∙ eqb-true (origin s first_out) v (least-holds (leaves s v) (the_half_count s) out_below),
      λ r b e. least_at_most (leaves s v) (the_half_count s) r (eq-eqb (origin s r) v (sym (R.origin_at_lem r b) ∙ e)),
    )

  -- ── edges ──

  sort : (k r : ℕ) → k < r → r < c.edges → (origin_of t (2 * k) < origin_of t (2 * r)) ⊎ ((origin_of t (2 * k) ≡ origin_of t (2 * r)) × (origin_of t (2 * k + 1) < origin_of t (2 * r + 1)))
  sort k r h l = go (earlier_is (piece_at mps k) (piece_at mps r) (melted-pieces ms K k r h (in_edges l)))
    where
      lk : k < c.edges
      lk = omega arith

      go : ((piece_at mps k).lo < (piece_at mps r).lo) ⊎ (((piece_at mps k).lo ≡ (piece_at mps r).lo) × ((piece_at mps k).hi < (piece_at mps r).hi))
          → (origin_of t (2 * k) < origin_of t (2 * r)) ⊎ ((origin_of t (2 * k) ≡ origin_of t (2 * r)) × (origin_of t (2 * k + 1) < origin_of t (2 * r + 1)))
      go (inl x) = inl (omega (arith, low_end ms mps s N c t R k lk, low_end ms mps s N c t R r l))
      go (inr (e, x)) = inr (low_end ms mps s N c t R k lk ∙ e ∙ sym (low_end ms mps s N c t R r l), omega (arith, high_end ms mps s N c t R k lk, high_end ms mps s N c t R r l))

  pub melted-ordered : Every Bounded (vertices_of ms) → Ordered c t
  melted-ordered F = record {
    in_order = λ u v h l. (λ i. before (R.point_is u (omega arith) i) (R.point_is v l i)) ∙ melted-vertices ms K u v h (in_vertices l);
    once = λ u v a b e. N.plane.distinct u v (in_vertices a) (in_vertices b) (ap (same (point s u)) (sym (sym (R.point_is u a) ∙ e ∙ R.point_is v b)) ∙ same_self (point s u));
    lowest = λ v l. subst LowestP (sym (point_old v l)) (at_lowest (vertices_of ms) (places ms K) (stood ms K v) (old_below v l));
    bounded = λ v l. subst Bounded (sym (point_old v l)) (every_in Bounded (vertices_of ms) F (point_in (vertices_of ms) (stood ms K v)) (at_among (vertices_of ms) (stood ms K v) (whole nowhere) (old_below v l)));
    least_out = out;
    sorted = sort;
  }
