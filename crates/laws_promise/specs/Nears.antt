-- The ends of an edge, as the tables say them, and the edges of maps that it runs along, in tables that hold a graph of pieces: by the tables' own points (`Near` of Defined) they are its sources (`cell-near`, `near-cell`).
-- Assumes nothing.
use Rattle.std.specs.Prelude.{◌≡◌, ◌<◌, ◌+◌, ◌*◌}
use Rattle.std.proofs.Common.{sym, ◌∙◌, ap, subst, arith}
use Rattle.seq.specs.Seq.{List, none, ℕ, length}
use Rattle.paper.specs.Graph.{Graph, Edge, edge_count}
use Rattle.paper.specs.Map.{Map}
use Rattle.paper.specs.Pieces.{layer, Piece}
use Rattle.paper.specs.Tables.{Counts, Tables, origin_of}
use Rattle.laws_plane.specs.Edges.{On}
use Rattle.laws_graph.specs.Halves.{origin_first, origin-second}
use Rattle.laws_map.specs.Keeps.{seg}
use Rattle.laws_overlay.specs.Links.{Runs}
use Rattle.laws_overlay.specs.Pieces.{Sourced, piece_at}
use Rattle.laws_promise.specs.Defined.{Near}
use Rattle.laws_promise.specs.Rows.{Pieced, Rows}

module _ (ms : List Map) (ps : List Piece) (g : Graph) (N : Pieced ms ps g) (c : Counts) (t : Tables) (H : Rows ms ps g c t) where
  below : {v : ℕ} → v < c.vertices → v < length g.points
  below {v} = subst (λ (n : ℕ). v < n) H.vertices-are

  counted : {v : ℕ} → v < length g.points → v < c.vertices
  counted {v} = subst (λ (n : ℕ). v < n) (sym H.vertices-are)

  pub in_edges : {k : ℕ} → k < c.edges → k < edge_count g
  in_edges {k} = subst (λ (n : ℕ). k < n) H.edges_are

  -- ── the ends of edge k ──

  pub low_end : (k : ℕ) → k < c.edges → origin_of t (2 * k) ≡ (piece_at ps k).lo
  low_end k l = H.origin_at_lem (2 * k) (omega arith) ∙ origin_first k g ∙ ap (λ (e : Edge). e.from) (N.edge_is k (in_edges l))

  pub high_end : (k : ℕ) → k < c.edges → origin_of t (2 * k + 1) ≡ (piece_at ps k).hi
  high_end k l = H.origin_at_lem (2 * k + 1) (omega arith) ∙ origin-second k g ∙ ap (λ (e : Edge). e.to) (N.edge_is k (in_edges l))

  -- ── neighbours, by the tables and by the definition ──

  pub runs-near : (i k u v : ℕ) → Runs ms g.points i k u v → Near ms c t i k u v
  runs-near i k u v r =
      let n = r.near in
      let b : v < c.vertices = counted n.below in
      record {
        in_list = r.in_list;
        of_map = r.of_map;
        rises = n.rises;
        below = b;
        on_low = subst (On (seg (layer ms i) k)) (sym (H.point_is u (omega (arith, n.rises)))) n.on_lo;
        on_high = subst (On (seg (layer ms i) k)) (sym (H.point_is v b)) n.on_hi;
        none_between = λ w x y o. n.none w x y (subst (On (seg (layer ms i) k)) (H.point_is w (omega arith)) o);
      }

  pub near-runs : (i k u v : ℕ) → Near ms c t i k u v → Runs ms g.points i k u v
  near-runs i k u v n = record {
    in_list = n.in_list;
    of_map = n.of_map;
    near = record {
      rises = n.rises;
      below = below n.below;
      on_lo = subst (On (seg (layer ms i) k)) (H.point_is u (omega (arith, n.rises, n.below))) n.on_low;
      on_hi = subst (On (seg (layer ms i) k)) (H.point_is v n.below) n.on_high;
      none = λ w x y o. n.none_between w x y (subst (On (seg (layer ms i) k)) (sym (H.point_is w (omega (arith, n.below)))) o);
    };
  }

  module _ (k : ℕ) (l : k < c.edges) where
    pub piece-sourced : Sourced ms g.points (piece_at ps k)
    piece-sourced = N.sourced k (in_edges l)

    pub lo-hi : (piece_at ps k).lo < (piece_at ps k).hi
    lo-hi = let (i, j, e) = piece-sourced.one in (piece-sourced.from i j e).near.rises
