-- (a) of Defined: the rows of the vertex table. Assumes nothing.
use Rattle.std.specs.Prelude.{◌≡◌, ◌<◌, ◌≤◌, ◌*◌}
use Rattle.std.proofs.Common.{sym, ◌∙◌, ap, subst, arith, eq-eqb, eqb-true, lt-ltb}
use Rattle.seq.specs.Seq.{Bool, cond, List, ℕ, length, pos, least}
use Rattle.seq.specs.Members.{at_among, every_in}
use Rattle.seq.proofs.Least.{least_below, least-holds, least_at_most}
use Rattle.paper.specs.Limits.{absent}
use Rattle.paper.specs.Plane.{Pt, whole, nowhere, before, same}
use Rattle.paper.specs.Graph.{Graph, point_in, the_half_count, origin, leaves}
use Rattle.paper.specs.Map.{Map}
use Rattle.paper.specs.Pieces.{layer, vertices_of}
use Rattle.paper.specs.Tables.{Counts, Tables, vertex_cell, origin_of}
use Rattle.laws_plane.specs.Points.{LowestP, same_self}
use Rattle.laws_plane.specs.Bounds.{Bounded}
use Rattle.laws_overlay.specs.Maps.{AllKeep}
use Rattle.laws_overlay.specs.Vertices.{Vertex, InReach, vertex_from, vertex_has, vertices-bounded, corner-stays}
use Rattle.laws_overlay.specs.Places.{places, at_lowest, at_before, at_same, number}
use Rattle.laws_overlay.specs.Inside.{overlaid}
use Rattle.laws_overlay.proofs.Round.{vertex_left}
use Rattle.laws_promise.specs.Defined.{the_point_at, VertexRows}
use Rattle.laws_promise.specs.Held.{Held}

module _ (ms : List Map) (K : AllKeep ms) (R : (i : ℕ) → i < length ms → InReach (layer ms i)) (c : Counts) (t : Tables) (H : Held ms c t) where
  abbrev vs : List Pt
  vs = vertices_of ms

  abbrev g : Graph
  g = overlaid ms

  below : {v : ℕ} → v < c.vertices → v < length vs
  below {v} = subst (λ (n : ℕ). v < n) H.vertices-are

  counted : {v : ℕ} → v < length vs → v < c.vertices
  counted {v} = subst (λ (n : ℕ). v < n) (sym H.vertices-are)

  -- of the point in a row, by that of the list
  at : (P : Pt → Type 0) (v : ℕ) → v < c.vertices → P (point_in vs v) → P (the_point_at t v)
  at P v l p = subst P (sym (H.point_is v l)) p

  there : (p : Pt) → Vertex ms p → (v : ℕ) × (v < c.vertices) × (the_point_at t v ≡ p)
  there p x = let (v, b, e) = number vs (places ms K) p (vertex_has ms K p x) in (v, counted b, H.point_is v (counted b) ∙ e)

  module _ (v : ℕ) (l : v < c.vertices) where
    abbrev first_out : ℕ
    first_out = least (leaves g v) (the_half_count g)

    out_below : first_out < the_half_count g
    out_below = let (r, b, e) = vertex_left ms K v (below l) in least_below (leaves g v) (the_half_count g) r b (eq-eqb (origin g r) v e)

    halves : {h : ℕ} → h < the_half_count g → h < 2 * c.edges
    halves {h} = subst (λ (n : ℕ). h < 2 * n) (sym H.edges_are)

    of_halves : {h : ℕ} → h < 2 * c.edges → h < the_half_count g
    of_halves {h} = subst (λ (n : ℕ). h < 2 * n) H.edges_are

    out : (h : ℕ) × (vertex_cell t v 3 ≡ pos h) × (h < 2 * c.edges) × (origin_of t h ≡ v) × ((r : ℕ) → r < 2 * c.edges → origin_of t r ≡ v → h ≤ r)
    out = (
      first_out,
      H.out_is_lem v l ∙ ap (λ (b : Bool). pos (cond b first_out absent)) (lt-ltb first_out (the_half_count g) out_below),
      halves out_below,
      H.origin_at_lem first_out (halves out_below) ∙ eqb-true (origin g first_out) v (least-holds (leaves g v) (the_half_count g) out_below),
      λ r b e. least_at_most (leaves g v) (the_half_count g) r (eq-eqb (origin g r) v (sym (H.origin_at_lem r b) ∙ e)),
    )

  pub vertex-rows : VertexRows ms c t
  vertex-rows = record {
    vertex_is = λ v l. at (Vertex ms) v l (vertex_from ms K (point_in vs v) (at_among vs v (whole nowhere) (below l)));
    vertex-there = there;
    in_order = λ u v h l. (λ i. before (H.point_is u (omega arith) i) (H.point_is v l i)) ∙ at_before vs (places ms K) u v h (below l);
    once = λ u v a b e. at_same vs (places ms K) u v (below a) (below b)
        (ap (same (point_in vs u)) (sym (sym (H.point_is u a) ∙ e ∙ H.point_is v b)) ∙ same_self (point_in vs u));
    lowest = λ v l. at LowestP v l (at_lowest vs (places ms K) v (below l));
    bounded = λ v l. at Bounded v l (every_in Bounded vs (vertices-bounded ms K R) (point_in vs v) (at_among vs v (whole nowhere) (below l)));
    corner-stays = λ i v a b. let (x, e, m) = corner-stays ms K i v a b in let (u, d, f) = number vs (places ms K) (whole x) m in (u, counted d, H.point_is u (counted d) ∙ f ∙ sym e);
    least_out = out;
  }
