-- Of Along of specs/, what rests on its definitions.
use Rattle.std.specs.Prelude.{◌≡◌, ◌<◌, ◌*◌, ◌/◌}
use Rattle.std.proofs.Common.{sym, ◌∙◌, ap, subst, arith}
use Rattle.seq.specs.Seq.{Bool, true, false, cond, List, none, some, ℕ, length, pos}
use Rattle.seq.specs.Options.{none_some}
use Rattle.paper.specs.Plane.{Pt, Vec, whole, head, opposite, cross, before, the_left_by}
use Rattle.paper.specs.Graph.{Graph, edge_count, point_in, edge, goes_up, upward, heading}
use Rattle.paper.specs.Map.{Map}
use Rattle.paper.specs.Pieces.{layer, vertices_of}
use Rattle.laws_plane.specs.Cone.{up_rises, up_nonzero}
use Rattle.laws_plane.specs.Points.{before_le, le_before}
use Rattle.laws_plane.specs.Ends.{0<1}
use Rattle.laws_plane.specs.Angles.{SameWay, cross-swap_0, same_way_sym, same_way-trans}
use Rattle.laws_plane.specs.Lines.{one_line}
use Rattle.laws_graph.specs.Halves.{even_double, half_first, first_below, origin_first}
use Rattle.laws_map.specs.Keeps.{seg, edges}
use Rattle.laws_overlay.specs.Maps.{AllKeep}
use Rattle.laws_overlay.specs.Places.{places}
use Rattle.laws_overlay.specs.Chain.{Turns}
use Rattle.laws_overlay.proofs.Chain.{turning-piece}
use Rattle.laws_overlay.specs.Net.{net-edges, from_is, to_is}
use Rattle.laws_overlay.proofs.Net.{near, carrier_up, ends_before, goes-even}
use Rattle.laws_overlay.proofs.NetPlane.{net-plane}
use Rattle.laws_overlay.specs.Inside.{overlaid, carrier_at, low_at, high_at, low_real, high_real}
use Rattle.laws_overlay.specs.Round.{Leaves, Out}
use Rattle.laws_overlay.proofs.Round.{source_up, source_on, source-way, out}
use Rattle.laws_graph.specs.Plane.{upward_up}
use Rattle.laws_overlay.specs.Along.{t, sources_at, Through}

module _ (ms : List Map) (K : AllKeep ms) where
  abbrev vs : List Pt
  vs = vertices_of ms

  abbrev g : Graph
  g = overlaid ms

  -- ── a source ──

  module _ (k : ℕ) (l : k < edge_count (overlaid ms)) (i e : ℕ) (s : sources_at ms k i ≡ some e) where
    -- its line is the carrier's
    pub source-line : (q : Pt) → the_left_by (seg (layer ms i) e) q ≡ pos 0 → the_left_by (carrier_at ms k) q ≡ pos 0
    source-line q z =
        one_line (t ms K k l i e s) (carrier_at ms k) (low_at ms k) q (source_up ms K k l i e s) (low_real ms K k l) (source-way ms K k l i e s).parallel (source_on ms K k l i e s).0.line
        (near ms K vs (places ms K) k l).on_lo.line z

    pub carrier-line : (q : Pt) → the_left_by (carrier_at ms k) q ≡ pos 0 → the_left_by (seg (layer ms i) e) q ≡ pos 0
    carrier-line q z =
        one_line (carrier_at ms k) (t ms K k l i e s) (low_at ms k) q (carrier_up ms K vs (places ms K) k l) (low_real ms K k l) (cross-swap_0 (upward g k) (t ms K k l i e s).up (source-way ms K k l i e s).parallel)
        (near ms K vs (places ms K) k l).on_lo.line (source_on ms K k l i e s).0.line z

    -- the piece starts on it, before its upper end, and ends on it, after its lower end
    pub source-span : (before (low_at ms k) (whole (head (seg (layer ms i) e))) ≡ true) × (before (whole (seg (layer ms i) e).foot) (high_at ms k) ≡ true)
    source-span =
        let (a, b) = source_on ms K k l i e s in
        let c = ends_before ms K vs (places ms K) k l in
        (before_le (low_at ms k) (high_at ms k) (whole (head (t ms K k l i e s))) (low_real ms K k l) (high_real ms K k l) 0<1 c b.high, le_before (whole (t ms K k l i e s).foot) (low_at ms k) (high_at ms k) 0<1 (low_real ms K k l) (high_real ms K k l) a.low c)

  -- ── every point of an edge is on a piece of it ──

  -- a test that fails at the lower end of edge e of map i and holds at the upper does so on a piece of it
  pub piece-through : (i e : ℕ) → i < length ms → e < edges (layer ms i) → (t : Pt → Bool) → t (whole (seg (layer ms i) e).foot) ≡ false → t (whole (head (seg (layer ms i) e))) ≡ true → Through ms i e t
  piece-through i e li le t x y = go (turning-piece ms K i e li le t x y)
    where
      go : Turns ms i e t → Through ms i e t
      go r = record {
        piece = r.piece;
        below = subst (λ (n : ℕ). r.piece < n) (sym (net-edges ms vs)) r.below;
        source = r.source;
        at_low = ap (λ (z : ℕ). t (point_in vs z)) (from_is ms vs r.piece) ∙ r.at_low;
        at_high = ap (λ (z : ℕ). t (point_in vs z)) (to_is ms vs r.piece) ∙ r.at_high;
      }

  -- ── no source ──

  module _ (k : ℕ) (l : k < edge_count (overlaid ms)) (i e : ℕ) (o : Leaves ms (edge (overlaid ms) k).from i e true) (p : cross (upward (overlaid ms) k) (seg (layer ms i) e).up ≡ pos 0) where
    up_first : heading g (2 * k) ≡ upward g k
    up_first = λ x. cond (up x) (upward g (half_first k x)) (opposite (upward g (half_first k x)))
      where
        up : goes_up g (2 * k) ≡ true
        up = goes-even ms K vs (places ms K) (2 * k) (first_below k g l) ∙ even_double k

    -- the half-edge that leaves along edge e is the piece's own
    own : Out ms (edge g k).from i e true → sources_at ms k i ≡ some e
    own r =
        let u = (seg (layer ms i) e).up in
        let ue = upward_up (layer ms i).graph (K i o.in_list).plane e o.of_map in
        let w : SameWay (upward g k) u = record { parallel = p; half = up_rises (upward g k) (carrier_up ms K vs (places ms K) k l) ∙ sym (up_rises u ue) } in
        let same : SameWay (heading g r.half) (heading g (2 * k)) = subst (λ (z : Vec). SameWay (heading g r.half) z) (sym up_first)
        (same_way-trans (heading g r.half) u (upward g k) (up_nonzero u ue) r.way (same_way_sym (upward g k) u w)) in
        let q : r.half ≡ 2 * k = (net-plane ms K vs (places ms K)).apart r.half (2 * k) r.below (first_below k g l) (r.leaves ∙ sym (origin_first k g)) same in
        ap (λ (z : ℕ). sources_at ms z i) (sym (half_first k) ∙ ap (λ (z : ℕ). z / 2) (sym q)) ∙ r.source

    -- an edge that leaves a piece's lower end the way that it goes is its source
    pub leaves-source : sources_at ms k i ≡ some e
    leaves-source = own (out ms K (edge g k).from i e (omega (arith, (near ms K vs (places ms K) k l).rises, (near ms K vs (places ms K) k l).below)) true o)

  pub source_none : (k : ℕ) → k < edge_count (overlaid ms) → (i : ℕ) → sources_at ms k i ≡ none → (e : ℕ) → Leaves ms (edge (overlaid ms) k).from i e true → cross (upward (overlaid ms) k) (seg (layer ms i) e).up ≡ pos 0 → ⊥
  source_none k l i n e o p = none_some (sym n ∙ leaves-source k l i e o p)
