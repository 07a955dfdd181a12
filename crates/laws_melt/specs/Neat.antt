-- Plane graphs whose edges are parts of their carriers and meet in ends only (`Neat`). The overlay's graph is one (`overlay_neat`). Two different edges that share a point share an end of both
-- (`neat_share`), and each stays clear of the inside of every other (`neat_clear`). Assumes nothing.
use Rattle.std.specs.Prelude.{◌≡◌, refl, ◌<◌, ◌<ℤ◌}
use Rattle.std.proofs.Common.{sym, ◌∙◌, ap, subst, inl, inr}
use Rattle.std.proofs.Math.Decide.{ℕ_discrete}
use Rattle.std.proofs.Math.IntN.{ℤ_discrete}
use Rattle.exact.specs.Sign.{sgn, is_zer}
use Rattle.exact.specs.Signs.{zero_is}
use Rattle.seq.specs.Seq.{Bool, true, false, List, ℕ, length, pos}
use Rattle.seq.specs.Tests.{clash, not-true}
use Rattle.paper.specs.Plane.{Pt, Seg, whole, head, cross, rises, before, same, the_left_by}
use Rattle.paper.specs.Graph.{Graph, edge_count, point, point_in, edge, origin, low, high, upward, east_side}
use Rattle.paper.specs.Map.{Map}
use Rattle.paper.specs.Pieces.{layer, vertices_of}
use Rattle.laws_plane.specs.Points.{before_asym, before_irr, le_before, before_le, neither}
use Rattle.laws_plane.specs.Ends.{0<1}
use Rattle.laws_plane.specs.Angles.{cross-self}
use Rattle.laws_plane.specs.Edges.{on_between}
use Rattle.laws_plane.specs.Parallel.{same_side}
use Rattle.laws_graph.specs.Halves.{twin-once}
use Rattle.laws_graph.specs.Plane.{Plane, ends_real, ends_on, upward_up}
use Rattle.laws_graph.specs.East.{east-once, west_side, west_below, west-start, west-heading}
use Rattle.laws_map.specs.Keeps.{seg}
use Rattle.laws_overlay.specs.Maps.{AllKeep}
use Rattle.laws_overlay.specs.Places.{places, at_real}
use Rattle.laws_overlay.specs.Net.{Lies}
use Rattle.laws_overlay.proofs.Net.{lies, low_is, high_is}
use Rattle.laws_overlay.proofs.NetPlane.{net-plane}
use Rattle.laws_overlay.specs.Inside.{overlaid}
use Rattle.laws_labels.specs.Spans.{Span, span, Good, OnSpan, InsideSpan, EndOf, lo, hi, on_lo, on_hi}
use Rattle.laws_labels.specs.Clear.{Within, Clear}
use Rattle.laws_labels.specs.Covers.{Covers}
use Rattle.laws_labels.specs.Overlay.{overlay-covers}

abbrev pub piece_span : Graph → ℕ → Span
piece_span g k = record { line = (edge g k).carrier; bottom = low g k; top = high g k }

pub record Neat (g : Graph) : Type 0 where
  pub plane : Plane g
  pub within : (k : ℕ) → k < edge_count g → Within (edge g k).carrier (low g k) (high g k)
  pub no_inside : (z k : ℕ) → z < length g.points → k < edge_count g → the_left_by (edge g k).carrier (point g z) ≡ pos 0 → before (low g k) (point g z) ≡ true → before (point g z) (high g k) ≡ true → ⊥
  -- edges that turn do not meet inside one of them
  pub meets : (k r : ℕ) → k < edge_count g → r < edge_count g → (cross (upward g k) (upward g r) ≡ pos 0 → ⊥) → (q : Pt) → pos 0 <ℤ q.D → InsideSpan (piece_span g k) q → OnSpan (piece_span g r) q → ⊥

module _ (g : Graph) (N : Neat g) where
  good : (k : ℕ) → k < edge_count g → Good (piece_span g k)
  good k l = (N.within k l).segment

  -- the lower end is a vertex
  low_vertex : (k : ℕ) → k < edge_count g → point g (origin g (west_side g k)) ≡ low g k
  low_vertex k l = west-start g N.plane k l

  -- edges in one line with the same lower end are one
  one_line : (k r : ℕ) → k < edge_count g → r < edge_count g → cross (upward g k) (upward g r) ≡ pos 0 → same (low g k) (low g r) ≡ true → k ≡ r
  one_line k r lk lr z s =
      let P = N.plane in
      east-once g k r (twin-once (east_side g k) (east_side g r)
      (P.apart (west_side g k) (west_side g r) (west_below g k lk) (west_below g r lr)
      (P.distinct (origin g (west_side g k)) (origin g (west_side g r)) (P.starts (west_side g k) (west_below g k lk)) (P.starts (west_side g r) (west_below g r lr)) ((λ t. same (low_vertex k lk t) (low_vertex r lr t)) ∙ s))
      record {
        parallel = (λ t. cross (west-heading g P k lk t) (west-heading g P r lr t)) ∙ z;
        half = ap rises (west-heading g P k lk) ∙ P.rising k lk ∙ sym (ap rises (west-heading g P r lr) ∙ P.rising r lr);
      }))

  module _ (k r : ℕ) (lk : k < edge_count g) (lr : r < edge_count g) (d : k ≡ r → ⊥) (q : Pt) (hq : pos 0 <ℤ q.D) where
    -- in one line: the lower ends would be one
    in_line_lem : cross (upward g k) (upward g r) ≡ pos 0 → InsideSpan (piece_span g k) q → OnSpan (piece_span g r) q → ⊥
    in_line_lem z o b = d (one_line k r lk lr z (neither (low g k) (low g r) low_k low_r))
      where
        P : Plane g
        P = N.plane

        sides : (p : Pt) → sgn (the_left_by (edge g k).carrier p) ≡ sgn (the_left_by (edge g r).carrier p)
        sides = same_side (edge g k).carrier (edge g r).carrier (upward_up g P k lk) (upward_up g P r lr) z q hq o.line b.line

        on_k : the_left_by (edge g k).carrier (low g r) ≡ pos 0
        on_k = zero_is (the_left_by (edge g k).carrier (low g r)) (ap is_zer (sides (low g r) ∙ ap sgn (ends_on g P r lr).0))

        on_r : the_left_by (edge g r).carrier (low g k) ≡ pos 0
        on_r = zero_is (the_left_by (edge g r).carrier (low g k)) (ap is_zer (sym (sides (low g k)) ∙ ap sgn (ends_on g P k lk).0))

        low_k : before (low g k) (low g r) ≡ false
        low_k = not-true (before (low g k) (low g r)) (λ e. N.no_inside (origin g (west_side g r)) k (P.starts (west_side g r) (west_below g r lr)) lk
            (ap (the_left_by (edge g k).carrier) (low_vertex r lr) ∙ on_k) (ap (before (low g k)) (low_vertex r lr) ∙ e)
            (ap (λ (p : Pt). before p (high g k)) (low_vertex r lr) ∙ le_before (low g r) q (high g k) (ends_real g P r).0 hq (ends_real g P k).1 b.low o.high))

        low_r : before (low g r) (low g k) ≡ false
        low_r = not-true (before (low g r) (low g k)) (λ e. N.no_inside (origin g (west_side g k)) r (P.starts (west_side g k) (west_below g k lk)) lr
            (ap (the_left_by (edge g r).carrier) (low_vertex k lk) ∙ on_r) (ap (before (low g r)) (low_vertex k lk) ∙ e)
            (ap (λ (p : Pt). before p (high g r)) (low_vertex k lk) ∙ before_le (low g k) q (high g r) (ends_real g P k).0 hq (ends_real g P r).1 o.low b.high))

    pub neat_off : InsideSpan (piece_span g k) q → OnSpan (piece_span g r) q → ⊥
    neat_off o b =
        elim (ℤ_discrete (cross (upward g k) (upward g r)) (pos 0)) [
          | yes z ↦ in_line_lem z o b
          | no n ↦ N.meets k r lk lr n q hq o b
        ]

  -- a point of an edge is inside it or an end
  on_end : (e : Span) (q : Pt) → OnSpan e q → (InsideSpan e q → ⊥) → EndOf e q
  on_end e q o n = go (before (lo e) q) (before q (hi e)) refl refl
    where
      go : (a b : Bool) → before (lo e) q ≡ a → before q (hi e) ≡ b → EndOf e q
      go true true x y = absurd (n (record { line = o.line; low = x; high = y }))
      go true false x y = inr (neither (hi e) q o.high y)
      go false b x y = inl (neither (lo e) q x o.low)

  pub neat_share : (k r : ℕ) → k < edge_count g → r < edge_count g → (k ≡ r → ⊥) → (q : Pt) → pos 0 <ℤ q.D → OnSpan (piece_span g k) q → OnSpan (piece_span g r) q → EndOf (piece_span g k) q × EndOf (piece_span g r) q
  neat_share k r lk lr d q hq a b = (
    on_end (piece_span g k) q a (λ o. neat_off k r lk lr d q hq o b),
    on_end (piece_span g r) q b (λ o. neat_off r k lr lk (λ e. d (sym e)) q hq o a),
  )

  pub neat_clear : (k r : ℕ) → k < edge_count g → r < edge_count g → Clear (edge g k).carrier (low g k) (high g k) (piece_span g r)
  neat_clear k r lk lr =
      elim (ℕ_discrete k r) [
        | yes e ↦ subst (λ (t : ℕ). Clear (edge g k).carrier (low g k) (high g k) (piece_span g t)) e record {
          lo_off = λ a b z. clash a (before_irr (low g k));
          hi_off = λ a b z. clash b (before_irr (high g k));
          no_meet = λ n q h a b c f. n (cross-self (upward g k));
        }
        | no d ↦ record {
          lo_off = λ a b z. neat_off k r lk lr d (low g r) (good r lr).p_real (record { line = z; low = a; high = b }) (on_lo (piece_span g r) (good r lr));
          hi_off = λ a b z. neat_off k r lk lr d (high g r) (good r lr).r_real (record { line = z; low = a; high = b }) (on_hi (piece_span g r) (good r lr));
          no_meet = λ n q h a b c f. neat_off k r lk lr d q h (record { line = b.line; low = c; high = f }) a;
        }
      ]

-- ── the overlay's graph ──

module _ (ms : List Map) (K : AllKeep ms) where
  abbrev g : Graph
  g = overlaid ms

  module _ (k r : ℕ) (lk : k < edge_count g) (lr : r < edge_count g) where
    L : Lies ms (vertices_of ms) r
    L = lies ms K (vertices_of ms) (places ms K) r lr

    abbrev i : ℕ
    i = L.layer_of

    abbrev j : ℕ
    j = L.source

    C : Covers g (layer ms i)
    C = overlay-covers ms K i L.runs.in_list

    -- a point of the piece is one of the edge along which it lies
    on_edge : (q : Pt) → pos 0 <ℤ q.D → OnSpan (piece_span g r) q → OnSpan (span (layer ms i) j) q
    on_edge q hq b =
        let vs = vertices_of ms in
        let m = layer ms i in
        let a = low_is ms K vs (places ms K) r lr in
        let c = high_is ms K vs (places ms K) r lr in
        let o = on_between (seg m j) (point_in vs (edge g r).from) q (point_in vs (edge g r).to) (at_real vs (places ms K) (edge g r).from) hq (at_real vs (places ms K) (edge g r).to)
        L.runs.near.on_lo L.runs.near.on_hi (sym (ap (λ (s : Seg). the_left_by s q) L.along) ∙ b.line) (sym (ap (before q) a) ∙ b.low) (sym (ap (λ (p : Pt). before p q) c) ∙ b.high) in
        record {
          line = o.line;
          low = sym (ap (before q) ((K i L.runs.in_list).foot_is j L.runs.of_map)) ∙ o.low;
          high = sym (ap (λ (p : Pt). before p q) ((K i L.runs.in_list).head_is j L.runs.of_map)) ∙ o.high;
        }

    turned : (cross (upward g k) (upward g r) ≡ pos 0 → ⊥) → (q : Pt) → pos 0 <ℤ q.D → InsideSpan (piece_span g k) q → OnSpan (piece_span g r) q → ⊥
    turned n q hq o b =
        let w = C.within k lk in
        let f = (edge g k).carrier in
        (C.clear k j lk L.runs.of_map).no_meet (λ z. n (ap (λ (s : Seg). cross (upward g k) s.up) L.along ∙ z)) q hq (on_edge q hq b)
        record {
          line = o.line;
          low = before_asym (whole f.foot) q (le_before (whole f.foot) (low g k) q 0<1 w.segment.p_real hq w.bottom o.low);
          high = before_asym q (whole (head f)) (before_le q (high g k) (whole (head f)) hq w.segment.r_real 0<1 o.high w.top);
        }
        o.low o.high

  -- some map is there where there is an edge
  covered : (k : ℕ) → k < edge_count g → (i : ℕ) × Covers g (layer ms i)
  covered k l = let L = lies ms K (vertices_of ms) (places ms K) k l in (L.layer_of, overlay-covers ms K L.layer_of L.runs.in_list)

  pub overlay_neat : Neat (overlaid ms)
  overlay_neat = record {
    plane = net-plane ms K (vertices_of ms) (places ms K);
    within = λ k l. (covered k l).1.within k l;
    no_inside = λ z k lz l. (covered k l).1.no_inside z k lz l;
    meets = turned;
  }
