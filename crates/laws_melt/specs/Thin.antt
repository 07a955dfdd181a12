-- The melted graph is a part of the overlay's graph (`melted-part`): its edges are the kept ones, in their order, its vertices the ends of those; and what that says of pieces, sources and numbers.
-- Of any list of maps that keep the rules. Assumes nothing.
use Rattle.std.specs.Prelude.{◌≡◌, ◌<◌, ◌||◌}
use Rattle.std.proofs.Common.{sym, ◌∙◌, ap, subst, arith, eq-eqb}
use Rattle.std.proofs.lemmas.List.{length-map}
use Rattle.seq.specs.Seq.{Bool, true, List, map, ℕ, eqb, length, get_or, count, select}
use Rattle.seq.specs.Tests.{or_l, or_r}
use Rattle.seq.specs.Count.{count_below}
use Rattle.seq.specs.Select.{length-select, select_at, select-nth}
use Rattle.seq.proofs.Least.{some_has}
use Rattle.seq.specs.Members.{map_at}
use Rattle.paper.specs.Plane.{whole, nowhere}
use Rattle.paper.specs.Graph.{Graph, Edge, no_edge, edge_count, point, edge}
use Rattle.paper.specs.Map.{Map}
use Rattle.paper.specs.Pieces.{Piece, edge_of, vertices_of, edges_of}
use Rattle.paper.specs.Faces.{Overlay, overlay_of, net}
use Rattle.laws_overlay.specs.Maps.{AllKeep}
use Rattle.laws_overlay.specs.Places.{places}
use Rattle.laws_overlay.specs.Pieces.{no_piece, piece_at}
use Rattle.laws_overlay.proofs.Pieces.{piece_ends}
use Rattle.laws_overlay.specs.Net.{edge_is}
use Rattle.laws_overlay.specs.Inside.{overlaid}
use Rattle.laws_overlay.specs.Parts.{net_is, pieces_are}
use Rattle.paper.specs.Melt.{separates, kept_edges, kept_pieces, is_end, afresh, melted_pieces, melted_graph}
use Rattle.laws_melt.specs.Part.{Part}

module _ (ms : List Map) (K : AllKeep ms) where
  abbrev o : Overlay
  o = overlay_of ms

  abbrev g : Graph
  g = overlaid ms

  abbrev all : List Piece
  all = edges_of ms (vertices_of ms)

  abbrev keep : ℕ → Bool
  keep = separates ms o

  abbrev ps : List Piece
  ps = kept_pieces ms o

  abbrev used : ℕ → Bool
  used = is_end ps

  abbrev s : Graph
  s = melted_graph ms o

  -- ── how many, and which ──

  kept_long : length (kept_edges ms o) ≡ count keep (length all)
  kept_long = length-select keep (length o.pieces) ∙ ap (λ (l : List Piece). count keep (length l)) (pieces_are ms)

  pub pieces_long : length (kept_pieces ms (overlay_of ms)) ≡ count (separates ms (overlay_of ms)) (length (edges_of ms (vertices_of ms)))
  pieces_long = length-map (kept_edges ms o) (piece_at o.pieces) ∙ kept_long

  pub edges_long : edge_count (melted_graph ms (overlay_of ms)) ≡ count (separates ms (overlay_of ms)) (length (edges_of ms (vertices_of ms)))
  edges_long = length-map (map (afresh used) ps) (edge_of ms) ∙ length-map ps (afresh used) ∙ pieces_long

  -- the number that edge k had
  abbrev pub was : ℕ → ℕ
  was k = get_or (kept_edges ms (overlay_of ms)) k 0

  pub was-kept : (k : ℕ) → k < edge_count (melted_graph ms (overlay_of ms)) →
      (was k < length (edges_of ms (vertices_of ms))) × (separates ms (overlay_of ms) (was k) ≡ true) × (count (separates ms (overlay_of ms)) (was k) ≡ k)
  was-kept k l =
      let r = select-nth keep (length o.pieces) k 0 (subst (λ (q : List Piece). k < count keep (length q)) (sym (pieces_are ms)) (omega (arith, edges_long))) in
      (subst (λ (q : List Piece). was k < length q) (pieces_are ms) r.0, r.1, r.2)

  -- an edge that is kept has a number
  pub kept-was : (r : ℕ) → r < length (edges_of ms (vertices_of ms)) → separates ms (overlay_of ms) r ≡ true →
      (k : ℕ) × (k < edge_count (melted_graph ms (overlay_of ms))) × (was k ≡ r)
  kept-was r l e = (
    count keep r,
    omega (arith, edges_long, count_below keep (length all) r l e),
    select_at keep (length o.pieces) r 0 (subst (λ (q : List Piece). r < length q) (sym (pieces_are ms)) l) e,
  )

  module _ (k : ℕ) (l : k < edge_count (melted_graph ms (overlay_of ms))) where
    in_pieces : k < length ps
    in_pieces = omega (arith, edges_long, pieces_long)

    pub piece-was : piece_at (kept_pieces ms (overlay_of ms)) k ≡ piece_at (edges_of ms (vertices_of ms)) (was k)
    piece-was =
        map_at (piece_at o.pieces) (kept_edges ms o) k 0 no_piece (omega (arith, edges_long, kept_long))
        ∙ ap (λ (q : List Piece). piece_at q (was k)) (pieces_are ms)

    pub melted-piece : piece_at (melted_pieces ms (overlay_of ms)) k ≡ afresh (is_end (kept_pieces ms (overlay_of ms))) (piece_at (edges_of ms (vertices_of ms)) (was k))
    melted-piece = map_at (afresh used) ps k no_piece no_piece in_pieces ∙ ap (afresh used) piece-was

    pub melted-edge : edge (melted_graph ms (overlay_of ms)) k ≡ edge_of ms (afresh (is_end (kept_pieces ms (overlay_of ms))) (piece_at (edges_of ms (vertices_of ms)) (was k)))
    melted-edge = map_at (edge_of ms) (melted_pieces ms o) k no_piece no_edge (omega (arith, length-map ps (afresh used), edges_long, pieces_long)) ∙ ap (edge_of ms) melted-piece

    -- ── its ends are kept ──

    pub low_used : is_end (kept_pieces ms (overlay_of ms)) (piece_at (edges_of ms (vertices_of ms)) (was k)).lo ≡ true
    low_used = some_has (λ j. eqb (piece_at ps j).lo (piece_at all (was k)).lo || eqb (piece_at ps j).hi (piece_at all (was k)).lo) (length ps) k in_pieces
        (or_l (eqb (piece_at ps k).hi (piece_at all (was k)).lo) (eq-eqb (piece_at ps k).lo (piece_at all (was k)).lo (ap (λ (p : Piece). p.lo) piece-was)))

    pub high_used : is_end (kept_pieces ms (overlay_of ms)) (piece_at (edges_of ms (vertices_of ms)) (was k)).hi ≡ true
    high_used = some_has (λ j. eqb (piece_at ps j).lo (piece_at all (was k)).hi || eqb (piece_at ps j).hi (piece_at all (was k)).hi) (length ps) k in_pieces
        (or_r (eqb (piece_at ps k).lo (piece_at all (was k)).hi) (eq-eqb (piece_at ps k).hi (piece_at all (was k)).hi (ap (λ (p : Piece). p.hi) piece-was)))

    ends : ((piece_at all (was k)).lo < (piece_at all (was k)).hi) × ((piece_at all (was k)).hi < length (vertices_of ms))
    ends = piece_ends ms K (vertices_of ms) (places ms K) (was k) (was-kept k l).0

  -- ── vertices ──

  n_points : length (net o).points ≡ length (vertices_of ms)
  n_points = ap (λ (x : Graph). length x.points) (net_is ms)

  pub melted_long : length (melted_graph ms (overlay_of ms)).points ≡ count (is_end (kept_pieces ms (overlay_of ms))) (length (vertices_of ms))
  melted_long = length-map (select used (length (net o).points)) (point (net o)) ∙ length-select used (length (net o).points) ∙ ap (count used) n_points

  abbrev pub stood : ℕ → ℕ
  stood v = get_or (select (is_end (kept_pieces ms (overlay_of ms))) (length (net (overlay_of ms)).points)) v 0

  pub stood-nth : (v : ℕ) → v < length (melted_graph ms (overlay_of ms)).points → (stood v < length (net (overlay_of ms)).points) × (is_end (kept_pieces ms (overlay_of ms)) (stood v) ≡ true) × (count (is_end (kept_pieces ms (overlay_of ms))) (stood v) ≡ v)
  stood-nth v l = select-nth used (length (net o).points) v 0 (omega (arith, melted_long, ap (count used) n_points))

  stood_at : (x : ℕ) → x < length (vertices_of ms) → used x ≡ true → (stood (count used x) ≡ x) × (count used x < length s.points)
  stood_at x l e = (select_at used (length (net o).points) x 0 (omega (arith, n_points)) e, omega (arith, melted_long, count_below used (length (vertices_of ms)) x l e))

  -- ── the part ──

  pub melted-part : Part (overlaid ms) (melted_graph ms (overlay_of ms)) was stood
  melted-part = record {
    edge_below = λ k l. omega (arith, (was-kept k l).0, length-map all (edge_of ms));
    edge-once = λ j k lj lk e. sym (was-kept j lj).2 ∙ ap (count keep) e ∙ (was-kept k lk).2;
    vertex_below = λ v l. omega (arith, (stood-nth v l).0, n_points);
    vertex-once = λ u v lu lv e. sym (stood-nth u lu).2 ∙ ap (count used) e ∙ (stood-nth v lv).2;
    point_is = λ v l. map_at (point (net o)) (select used (length (net o).points)) v 0 (whole nowhere) (omega (arith, l, length-map (select used (length (net o).points)) (point (net o)))) ∙ ap (λ (x : Graph). point x (stood v)) (net_is ms);
    from_below = λ k l. subst (λ (x : ℕ). x < length s.points) (sym (ap (λ (e : Edge). e.from) (melted-edge k l))) (stood_at (piece_at all (was k)).lo (omega (arith, (ends k l).0, (ends k l).1)) (low_used k l)).1;
    to_below = λ k l. subst (λ (x : ℕ). x < length s.points) (sym (ap (λ (e : Edge). e.to) (melted-edge k l))) (stood_at (piece_at all (was k)).hi (ends k l).1 (high_used k l)).1;
    from_is = λ k l. ap (λ (e : Edge). stood e.from) (melted-edge k l) ∙ (stood_at (piece_at all (was k)).lo (omega (arith, (ends k l).0, (ends k l).1)) (low_used k l)).0 ∙ sym (ap (λ (e : Edge). e.from) (edge_is ms (vertices_of ms) (was k)));
    to_is = λ k l. ap (λ (e : Edge). stood e.to) (melted-edge k l) ∙ (stood_at (piece_at all (was k)).hi (ends k l).1 (high_used k l)).0 ∙ sym (ap (λ (e : Edge). e.to) (edge_is ms (vertices_of ms) (was k)));
    carrier_is = λ k l. ap (λ (e : Edge). e.carrier) (melted-edge k l) ∙ sym (ap (λ (e : Edge). e.carrier) (edge_is ms (vertices_of ms) (was k)));
  }
