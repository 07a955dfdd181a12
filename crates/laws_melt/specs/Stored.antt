-- Ask 12 in the rows of the melted tables: the labels stored for the face of a kept half-edge are those that the half-edge had in the overlay (`stored-pair`); counts (`melted-counts`: no more vertices and
-- edges than the overlay has); vertices and edges stand in 01's order (`melted-vertices`, `melted-pieces`). Assumes nothing.
use Rattle.std.specs.Prelude.{◌≡◌, ◌<◌, ◌≤◌, ◌*◌, ◌/◌, ◌&&◌}
use Rattle.std.proofs.Math.Path.{refl}
use Rattle.std.proofs.Common.{sym, ◌∙◌, ap, ⊎_elim, arith, lt-ltb, eq-eqb, ltb-true, eqb-true}
use Rattle.seq.specs.Seq.{Bool, true, List, none, ℕ, ltb, eqb, length, get_or, count}
use Rattle.seq.specs.Tests.{or_l, or_r, or_cases, and_both, and_parts}
use Rattle.seq.specs.Table.{table_at, table_is, length-table}
use Rattle.seq.specs.Count.{count-le, count_below, count_before}
use Rattle.seq.specs.Pairs.{rising_at}
use Rattle.paper.specs.Plane.{before}
use Rattle.paper.specs.Graph.{Graph, edge_count, the_half_count, point}
use Rattle.paper.specs.Map.{Map}
use Rattle.paper.specs.Pieces.{vertices_of, edges_of, earlier, Piece, layer}
use Rattle.paper.specs.Faces.{overlay_of, labels_of, label_in, net, sources_of}
use Rattle.paper.specs.Tables.{counts_of, tables_of, face_cell}
use Rattle.paper.specs.Tables as T
use Rattle.laws_graph.specs.Faces.{face_of, face_below}
use Rattle.laws_overlay.specs.Maps.{AllKeep}
use Rattle.laws_overlay.specs.Places.{places, at_before}
use Rattle.laws_overlay.specs.Pieces.{piece_at, no_piece, pieces-rising}
use Rattle.laws_overlay.specs.Cells.{label-cell, half-cell}
use Rattle.laws_labels.specs.Demand3.{stored}
use Rattle.paper.specs.Melt.{separates, kept_pieces, is_end, afresh, melted_graph, melted_pieces, melted_of}
use Rattle.laws_melt.specs.Thin.{was, stood, stood-nth, was-kept, low_used, high_used, melted-piece, edges_long, melted_long, melted-part}
use Rattle.laws_melt.specs.Melts.{was_half, melted-drawn, melted-face}

module _ (ms : List Map) (K : AllKeep ms) where
  abbrev s : Graph
  s = melted_graph ms (overlay_of ms)

  edges_are : (counts_of (melted_of ms)).edges ≡ edge_count s
  unfolding melted_of
  edges_are = refl

  vertices-are : (counts_of (melted_of ms)).vertices ≡ length s.points
  unfolding melted_of
  vertices-are = refl

  -- ── no more than the overlay ──

  pub fewer-edges : (counts_of (melted_of ms)).edges ≤ length (edges_of ms (vertices_of ms))
  fewer-edges = omega (arith, edges_are, edges_long ms K, count-le (separates ms (overlay_of ms)) (length (edges_of ms (vertices_of ms))))

  pub fewer-vertices : (counts_of (melted_of ms)).vertices ≤ length (vertices_of ms)
  fewer-vertices = omega (arith, vertices-are, melted_long ms K, count-le (is_end (kept_pieces ms (overlay_of ms))) (length (vertices_of ms)))

  -- ── the stored pair ──

  module _ (h : ℕ) (l : h < 2 * (counts_of (melted_of ms)).edges) where
    lh : h < the_half_count s
    lh = omega (arith, l, edges_are)

    face-row : get_or (melted_of ms).face h 0 ≡ face_of s h
    unfolding melted_of
    face-row = table_at (face_of s) (the_half_count s) h 0 lh

    face_is : T.face_of (tables_of ms (melted_of ms)) h ≡ face_of s h
    face_is = half-cell ms (melted_of ms) h 4 l (omega arith) ∙ face-row

    face_in_lem : face_of s h < (counts_of (melted_of ms)).faces
    unfolding melted_of
    face_in_lem = face_below s (melted-drawn ms K).plane h lh

    pub stored-pair : stored (length ms) (tables_of ms (melted_of ms)) (T.face_of (tables_of ms (melted_of ms)) h) ≡ labels_of ms (overlay_of ms) (was_half ms K h)
    stored-pair =
        ap (stored (length ms) (tables_of ms (melted_of ms))) face_is
        ∙ sym (table_is (face_cell (length ms) (tables_of ms (melted_of ms)) (face_of s h)) (length ms) (labels_of ms (overlay_of ms) (was_half ms K h)) 0
        (length-table (λ i. label_in (layer ms i) (net (overlay_of ms)) (was_half ms K h) (get_or (sources_of (overlay_of ms) (was_half ms K h / 2)) i none)) (length ms))
        (λ i li. ap (λ (x : List ℕ). get_or x i 0) (sym (melted-face ms K h lh)) ∙ sym (label-cell ms (melted_of ms) (face_of s h) i face_in_lem li)))

  -- ── 01's order ──

  abbrev used : ℕ → Bool
  used = is_end (kept_pieces ms (overlay_of ms))

  pub melted-vertices : (u v : ℕ) → u < v → v < length (melted_graph ms (overlay_of ms)).points → before (point (melted_graph ms (overlay_of ms)) u) (point (melted_graph ms (overlay_of ms)) v) ≡ true
  melted-vertices u v l h =
      let S = melted-part ms K in
      let a = stood-nth ms K u (omega arith) in
      let b = stood-nth ms K v h in
      (λ i. before (S.point_is u (omega arith) i) (S.point_is v h i))
      ∙ at_before (vertices_of ms) (places ms K) (stood ms K u) (stood ms K v) (count_before used (stood ms K u) (stood ms K v) (omega (arith, a.2, b.2))) (omega (arith, S.vertex_below v h))

  pub melted-pieces : (j k : ℕ) → j < k → k < edge_count (melted_graph ms (overlay_of ms)) → earlier (piece_at (melted_pieces ms (overlay_of ms)) j) (piece_at (melted_pieces ms (overlay_of ms)) k) ≡ true
  melted-pieces j k l h =
      let lj : j < edge_count s = omega arith in
      let a = was-kept ms K j lj in
      let b = was-kept ms K k h in
      let w : was ms K j < was ms K k = count_before (separates ms (overlay_of ms)) (was ms K j) (was ms K k) (omega (arith, a.2, b.2)) in
      (λ i. earlier (melted-piece ms K j lj i) (melted-piece ms K k h i))
      ∙ afresh-earlier (piece_at all (was ms K j)) (piece_at all (was ms K k)) (low_used ms K j lj) (high_used ms K j lj) (rising_at earlier all no_piece (pieces-rising ms (vertices_of ms)) (was ms K j) (was ms K k) w b.0)
    where
      all : List Piece
      all = edges_of ms (vertices_of ms)

      afresh-earlier : (p q : Piece) → used p.lo ≡ true → used p.hi ≡ true → earlier p q ≡ true → earlier (afresh used p) (afresh used q) ≡ true
      afresh-earlier p q x y e =
          ⊎_elim
          (λ t. or_l (eqb (count used p.lo) (count used q.lo) && ltb (count used p.hi) (count used q.hi))
          (lt-ltb (count used p.lo) (count used q.lo) (count_below used q.lo p.lo (ltb-true p.lo q.lo t) x)))
          (λ t. let (u, v) = and_parts (eqb p.lo q.lo) (ltb p.hi q.hi) t in
          or_r (ltb (count used p.lo) (count used q.lo))
          (and_both (eq-eqb (count used p.lo) (count used q.lo) (ap (count used) (eqb-true p.lo q.lo u)))
          (lt-ltb (count used p.hi) (count used q.hi) (count_below used q.hi p.hi (ltb-true p.hi q.hi v) y))))
          (or_cases (ltb p.lo q.lo) (eqb p.lo q.lo && ltb p.hi q.hi) e)
