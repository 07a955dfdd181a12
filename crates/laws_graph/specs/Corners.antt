-- Graphs in whole numbers in which no two edges clash (`Corners`: what rules 6, 7 and 8 leave). Such a graph is a plane graph (`corners-plane`), and no two edges of it share a stretch
-- (`corners-clear`). Assumes nothing.
use Rattle.std.specs.Prelude.{◌≡◌, refl, ◌<◌, ◌<ℤ◌, ◌+◌, ◌*◌, ◌/◌}
use Rattle.std.proofs.Common.{sym, ◌∙◌, ap, subst, arith}
use Rattle.std.proofs.Math.Decide.{ℕ_discrete}
use Rattle.seq.specs.Seq.{Bool, true, false, cond, not, ℕ, pos}
use Rattle.seq.specs.Tests.{clash as no_both}
use Rattle.paper.specs.Plane.{Pt, whole, head, cross, opposite, rises, before, same, the_left_by, clash}
use Rattle.paper.specs.Graph.{Graph, edge_count, the_half_count, point, edge, twin, origin, low, high, goes_up, upward, heading, left_of}
use Rattle.laws_plane.specs.Cone.{up_rises, up_nonzero, rises-opposite}
use Rattle.laws_plane.specs.Points.{neither}
use Rattle.laws_plane.specs.Ends.{0<1, corner_same, whole-equal}
use Rattle.laws_plane.specs.Angles.{SameWay, cross-opposite, cross-swap_0}
use Rattle.laws_plane.specs.Sides.{left_foot}
use Rattle.laws_plane.specs.Lines.{one_line}
use Rattle.laws_plane.specs.NoClash.{foot-outside, foot-turned, head-turned}
use Rattle.laws_graph.specs.Halves.{half_below, twin_first, twin-second, Which, first, second, which}
use Rattle.laws_graph.specs.Plane.{Plane, up_ends}
use Rattle.laws_graph.specs.Nearest.{Clear}
use Rattle.laws_graph.specs.Laid.{Laid, point_is, foot_low, head_high, carrier_up, starts, moves, on_line, down_start}

pub record Corners (g : Graph) : Type 0 where
  pub laid : Laid g
  -- 8: no two edges clash
  pub no_clash : (k r : ℕ) → k < edge_count g → r < edge_count g → (k ≡ r → ⊥) → clash (edge g k).carrier (edge g r).carrier ≡ false

module _ (g : Graph) (C : Corners g) where
  -- ── angles ──

  module _ (h r : ℕ) (lh : h < the_half_count g) (lr : r < the_half_count g) (o : origin g h ≡ origin g r) where
    abbrev k : ℕ
    k = h / 2

    abbrev j : ℕ
    j = r / 2

    -- of one edge
    one_edge : k ≡ j → Which h → Which r → h ≡ r
    one_edge e (first p) (first q) = omega arith
    one_edge e (second p) (second q) = omega arith
    one_edge e (first p) (second q) = absurd (moves g C.laid h lh (o ∙ ap (origin g) t))
      where
        t : r ≡ twin h
        t = q ∙ ap (λ (x : ℕ). 2 * x + 1) (sym e) ∙ sym (ap twin p ∙ twin_first (h / 2))
    one_edge e (second p) (first q) = absurd (moves g C.laid h lh (o ∙ ap (origin g) t))
      where
        t : r ≡ twin h
        t = q ∙ ap (λ (x : ℕ). 2 * x) (sym e) ∙ sym (ap twin p ∙ twin-second (h / 2))

    module _ (d : k ≡ j → ⊥) where
      lk : k < edge_count g
      lk = half_below g h lh

      lj : j < edge_count g
      lj = half_below g r lr

      feet : goes_up g h ≡ true → goes_up g r ≡ true → (edge g k).carrier.foot ≡ (edge g j).carrier.foot
      feet e f = whole-equal (edge g k).carrier.foot (edge g j).carrier.foot (foot_low g C.laid k lk ∙ (up_ends g h e).0 ∙ ap (point g) o ∙ sym (up_ends g r f).0 ∙ sym (foot_low g C.laid j lj))

      heads : goes_up g h ≡ false → goes_up g r ≡ false → head (edge g k).carrier ≡ head (edge g j).carrier
      heads e f = whole-equal (head (edge g k).carrier) (head (edge g j).carrier) (head_high g C.laid k lk ∙ sym (down_start g C.laid h lh e) ∙ ap (point g) o ∙ down_start g C.laid r lr f ∙ sym (head_high g C.laid j lj))

      rise : (i : ℕ) → i < edge_count g → (rises (upward g i) ≡ true) × (rises (opposite (upward g i)) ≡ false)
      rise i m =
          let u = up_rises (upward g i) (carrier_up g C.laid i m) in
          (u, rises-opposite (upward g i) (up_nonzero (upward g i) (carrier_up g C.laid i m)) ∙ ap not u)

      -- of two edges: they would share a stretch
      two_edges : (c e : Bool) → goes_up g h ≡ c → goes_up g r ≡ e → SameWay (cond c (upward g k) (opposite (upward g k))) (cond e (upward g j) (opposite (upward g j))) → ⊥
      two_edges true true p q w =
          foot-turned (edge g k).carrier (edge g j).carrier (carrier_up g C.laid k lk) (carrier_up g C.laid j lj) (C.no_clash k j lk lj d) (feet p q) w.parallel
      two_edges true false p q w = no_both (rise k lk).0 (w.half ∙ (rise j lj).1)
      two_edges false true p q w = no_both (rise j lj).0 (sym w.half ∙ (rise k lk).1)
      two_edges false false p q w =
          head-turned (edge g k).carrier (edge g j).carrier (carrier_up g C.laid k lk) (carrier_up g C.laid j lj) (C.no_clash k j lk lj d) (heads p q)
          (sym (cross-opposite (upward g k) (upward g j)) ∙ w.parallel)

    angles : SameWay (heading g h) (heading g r) → h ≡ r
    angles w =
        elim (ℕ_discrete k j) [
          | yes e ↦ one_edge e (which h) (which r)
          | no d ↦ absurd (two_edges d (goes_up g h) (goes_up g r) refl refl w)
        ]

  -- a graph in corners is a plane graph
  pub corners-plane : Plane g
  corners-plane = record {
    real = λ v l. subst (λ (p : Pt). pos 0 <ℤ p.D) (sym (point_is g C.laid v)) 0<1;
    distinct = C.laid.distinct;
    starts = starts g C.laid;
    moves = moves g C.laid;
    rising = λ k l. up_rises (upward g k) (carrier_up g C.laid k l);
    on_line = on_line g C.laid;
    apart = angles;
  }

  -- ── no two edges share a stretch ──

  module _ (k r : ℕ) (lk : k < edge_count g) (lr : r < edge_count g) (d : k ≡ r → ⊥) (z : cross (upward g k) (upward g r) ≡ pos 0) (on : left_of g (low g r) k ≡ pos 0)
      (s : before (low g k) (high g r) ≡ true) (t : before (low g r) (high g k) ≡ true) where
    foot_on : the_left_by (edge g k).carrier (whole (edge g r).carrier.foot) ≡ pos 0
    foot_on = ap (the_left_by (edge g k).carrier) (foot_low g C.laid r lr) ∙ on

    on_foot : the_left_by (edge g r).carrier (whole (edge g k).carrier.foot) ≡ pos 0
    on_foot =
        one_line (edge g k).carrier (edge g r).carrier (whole (edge g r).carrier.foot) (whole (edge g k).carrier.foot) (carrier_up g C.laid k lk) 0<1
        (cross-swap_0 (upward g k) (upward g r) z) foot_on (left_foot (edge g r).carrier) (left_foot (edge g k).carrier)

    at_ends : (a b : Bool) → before (low g k) (low g r) ≡ a → before (low g r) (low g k) ≡ b → ⊥
    at_ends true b e f =
        foot-outside (edge g k).carrier (edge g r).carrier (carrier_up g C.laid k lk) (carrier_up g C.laid r lr) (C.no_clash k r lk lr d)
        (record { line = foot_on; low = (λ i. before (foot_low g C.laid k lk i) (foot_low g C.laid r lr i)) ∙ e; high = (λ i. before (foot_low g C.laid r lr i) (head_high g C.laid k lk i)) ∙ t })
    at_ends false true e f =
        foot-outside (edge g r).carrier (edge g k).carrier (carrier_up g C.laid r lr) (carrier_up g C.laid k lk) (C.no_clash r k lr lk (λ q. d (sym q)))
        (record { line = on_foot; low = (λ i. before (foot_low g C.laid r lr i) (foot_low g C.laid k lk i)) ∙ f; high = (λ i. before (foot_low g C.laid k lk i) (head_high g C.laid r lr i)) ∙ s })
    at_ends false false e f =
        foot-turned (edge g k).carrier (edge g r).carrier (carrier_up g C.laid k lk) (carrier_up g C.laid r lr) (C.no_clash k r lk lr d)
        (corner_same (edge g k).carrier.foot (edge g r).carrier.foot ((λ i. same (foot_low g C.laid k lk i) (foot_low g C.laid r lr i)) ∙ neither (low g k) (low g r) e f)) z

  pub corners-clear : Clear g
  corners-clear k r lk lr z on s t =
      elim (ℕ_discrete k r) [ yes e ↦ e | no d ↦ absurd (at_ends k r lk lr d z on s t (before (low g k) (low g r)) (before (low g r) (low g k)) refl refl) ]
