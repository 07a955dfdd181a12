-- The maps of a list in another order (`Renumbers`): the overlay has the same vertices (`renumber_vertices`), pieces with the same ends in the same order, whose sources go with the
-- maps (`renumber_source`), and a graph that differs only in which input edge carries a piece (`renumber_alike`). Assumes nothing.
use Rattle.std.specs.Prelude.{◌≡◌, ◌<◌}
use Rattle.std.proofs.Common.{sym, ◌∙◌, ap, subst, subst₂, inl, inr}
use Rattle.seq.specs.Seq.{List, ℕ, length}
use Rattle.seq.specs.Sorted.{rising-unique}
use Rattle.paper.specs.Plane.{Pt, before}
use Rattle.paper.specs.Graph.{point}
use Rattle.paper.specs.Map.{Map}
use Rattle.paper.specs.Pieces.{layer, vertices_of}
use Rattle.laws_plane.specs.Points.{before_asymmetric}
use Rattle.laws_plane.specs.Crossing.{Touch}
use Rattle.laws_map.specs.Keeps.{Keeps, seg, edges, vertices}
use Rattle.laws_overlay.specs.Maps.{AllKeep}
use Rattle.laws_overlay.specs.Vertices.{Corner, Crossed, Vertex, vertex_from, vertex_has, vertices-rising}
use Rattle.laws_overlay.specs.Places.{Places}

-- map i of ms is map `to i` of ns, and map j of ns is map `back j` of ms
pub record Renumbers (ms ns : List Map) (to back : ℕ → ℕ) : Type 0 where
  pub count : length ns ≡ length ms
  pub to_in : (i : ℕ) → i < length ms → to i < length ms
  pub back_in : (j : ℕ) → j < length ms → back j < length ms
  pub back_to : (i : ℕ) → i < length ms → back (to i) ≡ i
  pub to_back : (j : ℕ) → j < length ms → to (back j) ≡ j
  pub same : (i : ℕ) → i < length ms → layer ns (to i) ≡ layer ms i

module _ (ms ns : List Map) (to back : ℕ → ℕ) (R : Renumbers ms ns to back) where
  pub in_ns : {i : ℕ} → i < length ms → i < length ns
  in_ns {i} = subst (λ (n : ℕ). i < n) (sym R.count)

  in_ms : {i : ℕ} → i < length ns → i < length ms
  in_ms {i} = subst (λ (n : ℕ). i < n) R.count

  back_same : (j : ℕ) → j < length ms → layer ms (back j) ≡ layer ns j
  back_same j l = sym (R.same (back j) (R.back_in j l)) ∙ ap (layer ns) (R.to_back j l)

  pub renumber_back : Renumbers ns ms back to
  renumber_back = record {
    count = sym R.count;
    to_in = λ j l. in_ns (R.back_in j (in_ms l));
    back_in = λ i l. in_ns (R.to_in i (in_ms l));
    back_to = λ j l. R.to_back j (in_ms l);
    to_back = λ i l. R.back_to i (in_ms l);
    same = λ j l. back_same j (in_ms l);
  }

  pub renumber_keeps : AllKeep ms → AllKeep ns
  renumber_keeps K j l = subst Keeps (back_same j (in_ms l)) (K (back j) (R.back_in j (in_ms l)))

  -- ── vertices ──

  corner_to : (p : Pt) → Corner ms p → Corner ns p
  corner_to p c =
      let i = c.layer_of in
      let e = sym (R.same i c.in_list) in
      record {
        layer_of = to i;
        vertex = c.vertex;
        in_list = in_ns (R.to_in i c.in_list);
        below = subst (λ (m : Map). c.vertex < vertices m) e c.below;
        is = subst (λ (m : Map). point m.graph c.vertex ≡ p) e c.is;
      }

  crossed_to : (p : Pt) → Crossed ms p → Crossed ns p
  crossed_to p c =
      let i = c.first_layer in
      let j = c.second-layer in
      let e = sym (R.same i c.first_in) in
      let f = sym (R.same j c.second_in) in
      record {
        first_layer = to i;
        second-layer = to j;
        first_edge = c.first_edge;
        second-edge = c.second-edge;
        first_in = in_ns (R.to_in i c.first_in);
        second_in = in_ns (R.to_in j c.second_in);
        differ = λ q. c.differ (sym (R.back_to i c.first_in) ∙ ap back q ∙ R.back_to j c.second_in);
        first_below = subst (λ (m : Map). c.first_edge < edges m) e c.first_below;
        second_below = subst (λ (m : Map). c.second-edge < edges m) f c.second_below;
        touch = subst₂ (λ (m n : Map). Touch (seg m c.first_edge) (seg n c.second-edge) p) e f c.touch;
      }

  vertex_to : (p : Pt) → Vertex ms p → Vertex ns p
  vertex_to p (inl c) = inl (corner_to p c)
  vertex_to p (inr c) = inr (crossed_to p c)

-- ── the same vertices ──

pub renumber_vertices : (ms ns : List Map) (to back : ℕ → ℕ) → Renumbers ms ns to back → AllKeep ms → vertices_of ns ≡ vertices_of ms
renumber_vertices ms ns to back R K =
    let L = renumber_keeps ms ns to back R K in
    rising-unique before before_asymmetric (vertices_of ns) (vertices_of ms) (vertices-rising ns L) (vertices-rising ms K)
    (λ p i. vertex_has ms K p (vertex_to ns ms back to (renumber_back ms ns to back R) p (vertex_from ns L p i)))
    (λ p i. vertex_has ns L p (vertex_to ms ns to back R p (vertex_from ms K p i)))

-- ── the same ends ──

module _ (vs : List Pt) (O : Places vs) where
  module _ (ms ns : List Map) (to back : ℕ → ℕ) (R : Renumbers ms ns to back) (K : AllKeep ms) where
    pub L : AllKeep ns
    L = renumber_keeps ms ns to back R K
