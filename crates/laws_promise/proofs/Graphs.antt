-- Of Graphs of specs/, what rests on its definitions.
use Rattle.std.specs.Prelude.{◌≡◌, refl, ◌<◌, ◌≤◌, ◌*◌}
use Rattle.std.proofs.Common.{sym, ◌∙◌, ap, subst, eq-eqb, eqb-true}
use Rattle.std.proofs.Math.Decide.{ℕ_discrete}
use Rattle.seq.specs.Seq.{true, false, List, Option, none, some, ℕ, length, table, among}
use Rattle.seq.specs.Terms.{Among, BestIs}
use Rattle.seq.specs.Tests.{clash, not-true}
use Rattle.seq.specs.Table.{table-ext, table_of}
use Rattle.seq.specs.Position.{among-elem}
use Rattle.paper.specs.Plane.{whole, nowhere, less_angle}
use Rattle.paper.specs.Graph.{Graph, no_edge, walk, point, the_half_count, edge, origin, followers, leaves, greatest_out}
use Rattle.paper.specs.Map.{Map}
use Rattle.paper.specs.Pieces.{Piece, carrier_of}
use Rattle.paper.specs.Faces.{walks_of, hole_at}
use Rattle.paper.specs.Tables.{Counts, Tables, origin_of, the_plus_one}
use Rattle.laws_graph.specs.Follow.{lesser, greatest_is}
use Rattle.laws_graph.specs.Walks.{along-walk, hole_is as hole_at_lem}
use Rattle.laws_overlay.specs.Sources.{source_at}
use Rattle.laws_overlay.specs.Pieces.{piece_at}
use Rattle.laws_promise.specs.Defined.{the_point_at, way_at, minus_one, source_of, the_edge_in, graph_in, Hole}
use Rattle.laws_promise.specs.Rows.{Pieced, Rows}
use Rattle.laws_promise.specs.Nears.{in_edges, low_end, high_end}
use Rattle.laws_promise.specs.Ways.{in_net, of_net, way_less}
use Rattle.laws_promise.specs.Graphs.{on_below, on_along, P, lh, maker_low, is_hole}

minus_plus : (o : Option ℕ) → minus_one (the_plus_one o) ≡ o
minus_plus none = refl
minus_plus (some k) = refl

module _ (ms : List Map) (ps : List Piece) (g : Graph) (N : Pieced ms ps g) (c : Counts) (t : Tables) (H : Rows ms ps g c t) where
  -- ── the graph ──

  source-held : (k i : ℕ) → k < c.edges → i < length ms → source_of (length ms) t k i ≡ source_at (piece_at (ps) k).sources i
  source-held k i l b = ap minus_one (H.source_at_lem k i l b) ∙ minus_plus (source_at (piece_at ps k).sources i)

  sources-are : (k : ℕ) → k < c.edges → table (source_of (length ms) t k) (length ms) ≡ (piece_at ps k).sources
  sources-are k l =
      let w = (N.sourced k (in_edges ms ps g N c t H l)).width in
      table-ext (source_of (length ms) t k) (source_at (piece_at ps k).sources) (length ms) (λ i b. source-held k i l b)
      ∙ ap (table (source_at (piece_at ps k).sources)) (sym w) ∙ table_of (piece_at ps k).sources none

  edge_at : (k : ℕ) → k < c.edges → the_edge_in ms t k ≡ edge g k
  edge_at k l =
      (λ i. record { from = low_end ms ps g N c t H k l i; to = high_end ms ps g N c t H k l i; carrier = carrier_of ms (sources-are k l i) })
      ∙ sym (N.edge_is k (in_edges ms ps g N c t H l))

  pub graph_is : graph_in ms c t ≡ g
  graph_is = λ i. record {
    points = points i;
    edges = edges i;
  }
    where
      points : table (the_point_at t) c.vertices ≡ g.points
      points = table-ext (the_point_at t) (point g) c.vertices H.point_is ∙ ap (table (point g)) H.vertices-are ∙ table_of g.points (whole nowhere)

      edges : table (the_edge_in ms t) c.edges ≡ g.edges
      edges = table-ext (the_edge_in ms t) (edge g) c.edges edge_at ∙ ap (table (edge g)) H.edges_are ∙ table_of g.edges no_edge

  -- ── walks ──

  module _ (h : ℕ) (l : h < 2 * c.edges) where
    -- ── hole walks ──

    pub hole-held : Hole c t h → hole_at (walks_of g) h ≡ true
    hole-held o =
        let m = o.maker in
        let lm : m < 2 * c.edges = on_below ms ps g N c t H h l m o.on in
        let a = on_along ms ps g N c t H h l m o.on in
        hole_at_lem g (P ms ps g N c t H) h (lh ms ps g N c t H h l) ∙ ap (λ (v : ℕ). among (greatest_out g v) (walk (followers g) h)) (maker_low ms ps g N c t H h l o) ∙ found m lm o.greatest (greatest_out g (origin g m)) refl (along-walk g (P ms ps g N c t H) h (lh ms ps g N c t H h l) m a)
      where
        found : (m : ℕ) → m < 2 * c.edges → ((r : ℕ) → r < 2 * c.edges → origin_of t r ≡ origin_of t m → less_angle (way_at t m) (way_at t r) ≡ false)
            → (x : Option ℕ) → greatest_out g (origin g m) ≡ x → Among m (walk (followers g) h) → among x (walk (followers g) h) ≡ true
        found m lm f x e i = go x (subst (BestIs (leaves g (origin g m)) (λ y z. lesser g z y) (the_half_count g)) e (greatest_is g (P ms ps g N c t H) (origin g m)))
          where
            go : (x : Option ℕ) → BestIs (leaves g (origin g m)) (λ y z. lesser g z y) (the_half_count g) x → among x (walk (followers g) h) ≡ true
            go none b = absurd (b m (record { below = in_net ms ps g N c t H lm; has = eq-eqb (origin g m) (origin g m) refl }))
            go (some r) b =
                elim (ℕ_discrete m r) [
                  | yes q ↦ subst (λ (y : ℕ). among (some y) (walk (followers g) h) ≡ true) q (among-elem m (walk (followers g) h) i)
                  | no q ↦ let lr : r < 2 * c.edges = of_net ms ps g N c t H b.is.below in
                      absurd (clash (b.beats m (record { below = in_net ms ps g N c t H lm; has = eq-eqb (origin g m) (origin g m) refl }) q)
                      (sym (way_less ms ps g N c t H m r lm lr) ∙ f r lr (H.origin_at_lem r lr ∙ eqb-true (origin g r) (origin g m) b.is.has ∙ sym (H.origin_at_lem m lm))))
                ]

    pub outer_at : (Hole c t h → ⊥) → hole_at (walks_of g) h ≡ false
    outer_at n = not-true (hole_at (walks_of g) h) (λ e. n (is_hole ms ps g N c t H h l e))
