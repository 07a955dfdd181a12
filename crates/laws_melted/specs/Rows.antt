-- The melted graph is a plane graph of the melted pieces (`melted-pieced`): each has exactly the edges of the maps that it runs along between neighbours among the vertices that are left. Vertices that are dropped are not
-- on it, and an edge of a map on which both its ends stand is one that it came from. So the melted tables hold the rows of the melted graph (`melted-rows`), and all that laws_promise says of tables that hold a graph of pieces
-- holds of them. Assumes nothing.
use Rattle.std.specs.Prelude.{◌≡◌, ◌<◌, ◌<ℤ◌}
use Rattle.std.proofs.Common.{sym, ◌∙◌, ap, subst, arith}
use Rattle.seq.specs.Seq.{Bool, List, ℕ, length, pos, count}
use Rattle.seq.specs.Count.{count_below, count_before}
use Rattle.paper.specs.Plane.{Pt, Seg, dir, the_left_by}
use Rattle.paper.specs.Graph.{Graph, Edge, point_in, point, edge_count}
use Rattle.paper.specs.Map.{Map}
use Rattle.paper.specs.Pieces.{Piece, layer, edge_of, vertices_of, edges_of}
use Rattle.paper.specs.Faces.{overlay_of}
use Rattle.paper.specs.Tables.{counts_of, tables_of}
use Rattle.paper.specs.Lent.{Lengths, padded_tables}
use Rattle.paper.specs.Melt.{kept_pieces, is_end, melted_pieces, melted_graph, melted_of}
use Rattle.laws_plane.specs.Cone.{UpV, up_nonzero}
use Rattle.laws_plane.specs.Points.{before_up}
use Rattle.laws_plane.specs.Sides.{chord}
use Rattle.laws_plane.specs.Angles.{parallel-trans, cross-swap_0}
use Rattle.laws_plane.specs.Edges.{On}
use Rattle.laws_plane.specs.Lines.{one_line}
use Rattle.laws_graph.specs.Plane.{upward_up}
use Rattle.laws_map.specs.Keeps.{seg}
use Rattle.laws_overlay.specs.Maps.{AllKeep}
use Rattle.laws_overlay.specs.Places.{places, at_real, at_before}
use Rattle.laws_overlay.specs.Links.{Runs}
use Rattle.laws_overlay.specs.OneLine.{none_between}
use Rattle.laws_overlay.specs.Pieces.{Sourced, piece_at}
use Rattle.laws_overlay.proofs.Pieces.{piece_at_lem, piece_ends}
use Rattle.laws_overlay.specs.Net.{edge_is}
use Rattle.laws_overlay.proofs.NetPlane.{net-clear}
use Rattle.laws_overlay.specs.Inside.{overlaid}
use Rattle.laws_melt.specs.Part.{Part, part-clear}
use Rattle.laws_melt.specs.Thin.{was, stood, stood-nth, was-kept, low_used, high_used, melted_long, melted-piece, melted-edge, melted-part}
use Rattle.laws_melt.specs.Melts.{melted-drawn}
use Rattle.laws_promise.specs.Rows.{Pieced, Rows, padded-rows}

-- two lines with two points in common are one
line_same : (e f : Seg) (p q x : Pt) → UpV e.up → pos 0 <ℤ p.D → UpV (dir p q) → the_left_by e p ≡ pos 0 → the_left_by e q ≡ pos 0 → the_left_by f p ≡ pos 0 → the_left_by f q ≡ pos 0 → the_left_by e x ≡ pos 0 → the_left_by f x ≡ pos 0
line_same e f p q x ue hp ud ep eq fp fq ex =
    one_line e f p x ue hp (parallel-trans f.up (dir p q) e.up (up_nonzero (dir p q) ud) (chord f p q fp fq) (cross-swap_0 e.up (dir p q) (chord e p q ep eq))) ep fp ex

module _ (ms : List Map) (K : AllKeep ms) where
  abbrev g : Graph
  g = overlaid ms

  abbrev s : Graph
  s = melted_graph ms (overlay_of ms)

  abbrev vs : List Pt
  vs = vertices_of ms

  abbrev used : ℕ → Bool
  used = is_end (kept_pieces ms (overlay_of ms))

  abbrev S : Part g s (was ms K) (stood ms K)
  S = melted-part ms K

  -- ── piece k, and the piece of the overlay that it was ──

  module _ (k : ℕ) (l : k < edge_count (melted_graph ms (overlay_of ms))) where
    abbrev p : Piece
    p = piece_at (edges_of ms (vertices_of ms)) (was ms K k)

    abbrev low : ℕ
    low = count (is_end (kept_pieces ms (overlay_of ms))) (piece_at (edges_of ms (vertices_of ms)) (was ms K k)).lo

    abbrev high : ℕ
    high = count (is_end (kept_pieces ms (overlay_of ms))) (piece_at (edges_of ms (vertices_of ms)) (was ms K k)).hi

    old_piece : Sourced ms (vertices_of ms) (piece_at (edges_of ms (vertices_of ms)) (was ms K k))
    old_piece = piece_at_lem ms K vs (places ms K) (was ms K k) (was-kept ms K k l).0

    ends : (p.lo < p.hi) × (p.hi < length vs)
    ends = piece_ends ms K vs (places ms K) (was ms K k) (was-kept ms K k l).0

    high_below : high < length s.points
    high_below = omega (arith, melted_long ms K, count_below used (length vs) p.hi ends.1 (high_used ms K k l))

    rises : low < high
    rises = count_below used p.hi p.lo ends.0 (low_used ms K k l)

    -- its ends stood where they stand
    low_stood : stood ms K low ≡ p.lo
    low_stood = ap (λ (e : Edge). stood ms K e.from) (sym (melted-edge ms K k l)) ∙ S.from_is k l ∙ ap (λ (e : Edge). e.from) (edge_is ms vs (was ms K k))

    high_stood : stood ms K high ≡ p.hi
    high_stood = ap (λ (e : Edge). stood ms K e.to) (sym (melted-edge ms K k l)) ∙ S.to_is k l ∙ ap (λ (e : Edge). e.to) (edge_is ms vs (was ms K k))

    low_point : point s low ≡ point_in vs p.lo
    low_point = S.point_is low (omega (arith, rises, high_below)) ∙ ap (point_in vs) low_stood

    high_point : point s high ≡ point_in vs p.hi
    high_point = S.point_is high high_below ∙ ap (point_in vs) high_stood

    -- an edge that the piece ran along, it still does
    still : (i j : ℕ) → Runs ms vs i j p.lo p.hi → Runs ms s.points i j low high
    still i j r = record {
      in_list = r.in_list;
      of_map = r.of_map;
      near = record {
        rises = rises;
        below = high_below;
        on_lo = subst (On (seg (layer ms i) j)) (sym low_point) r.near.on_lo;
        on_hi = subst (On (seg (layer ms i) j)) (sym high_point) r.near.on_hi;
        none = λ w a b o.
            let lw : w < length s.points = omega (arith, high_below) in
            let n = stood-nth ms K w lw in
            r.near.none (stood ms K w) (count_before used p.lo (stood ms K w) (omega (arith, n.2))) (count_before used (stood ms K w) p.hi (omega (arith, n.2)))
            (subst (On (seg (layer ms i) j)) (S.point_is w lw) o);
      };
    }

    -- and it ran along each that it runs along: a vertex between its ends on such an edge would be on it
    before_too : (i j : ℕ) → Runs ms s.points i j low high → Runs ms vs i j p.lo p.hi
    before_too i j r = record {
      in_list = r.in_list;
      of_map = r.of_map;
      near = record { rises = ends.0; below = ends.1; on_lo = on_low; on_hi = on_high; none = none_there };
    }
      where
        on_low : On (seg (layer ms i) j) (point_in vs p.lo)
        on_low = subst (On (seg (layer ms i) j)) low_point r.near.on_lo

        on_high : On (seg (layer ms i) j) (point_in vs p.hi)
        on_high = subst (On (seg (layer ms i) j)) high_point r.near.on_hi

        none_there : (w : ℕ) → p.lo < w → w < p.hi → On (seg (layer ms i) j) (point_in vs w) → ⊥
        none_there w a b o =
            let (x, y, e) = old_piece.one in
            let n = (old_piece.from x y e).near in
            none_between vs (places ms K) (seg (layer ms x) y) p.lo w p.hi n
            (line_same (seg (layer ms i) j) (seg (layer ms x) y) (point_in vs p.lo) (point_in vs p.hi) (point_in vs w) (upward_up (layer ms i).graph (K i r.in_list).plane j r.of_map)
            (at_real vs (places ms K) p.lo) (before_up (point_in vs p.lo) (point_in vs p.hi) (at_before vs (places ms K) p.lo p.hi ends.0 ends.1))
            on_low.line on_high.line n.on_lo.line n.on_hi.line o.line) a b

    melted-sourced : Sourced ms s.points (piece_at (melted_pieces ms (overlay_of ms)) k)
    melted-sourced = subst (Sourced ms s.points) (sym (melted-piece ms K k l)) (record {
      width = old_piece.width;
      from = λ i j e. still i j (old_piece.from i j e);
      all = λ i j r. old_piece.all i j (before_too i j r);
      one = old_piece.one;
    })

  pub melted-pieced : Pieced ms (melted_pieces ms (overlay_of ms)) (melted_graph ms (overlay_of ms))
  melted-pieced = record {
    plane = (melted-drawn ms K).plane;
    clear = part-clear g s (was ms K) (stood ms K) S (net-clear ms K vs (places ms K));
    goes = (melted-drawn ms K).goes;
    edge_is = λ k l. melted-edge ms K k l ∙ ap (edge_of ms) (sym (melted-piece ms K k l));
    sourced = melted-sourced;
  }

  pub melted-rows : (l : Lengths) → Rows ms (melted_pieces ms (overlay_of ms)) (melted_graph ms (overlay_of ms)) (counts_of (melted_of ms)) (padded_tables l (tables_of ms (melted_of ms)))
  unfolding melted_of
  melted-rows l = padded-rows ms (melted_pieces ms (overlay_of ms)) (melted_graph ms (overlay_of ms)) melted-pieced l
