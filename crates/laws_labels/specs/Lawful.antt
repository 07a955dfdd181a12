-- What the potential asks of a graph with a label at each half-edge (`Lawful`): a plane graph, of which no two edges share a point that is not an end of both, every vertex has an edge, and labels
-- agree as rule 10 says. A map that keeps the rules is lawful (`keeps-lawful`), and so is any plane graph whose half-edges are labelled by their faces. Ends need not be corners. Assumes nothing.
use Rattle.std.specs.Prelude.{◌≡◌, ◌<◌, ◌<ℤ◌}
use Rattle.std.proofs.Common.{sym, ◌∙◌, ap, subst₂, inl, inr}
use Rattle.seq.specs.Seq.{true, ℕ, pos, or_zero}
use Rattle.paper.specs.Plane.{Pt, before, same}
use Rattle.paper.specs.Graph.{origin, low, high, follower, followers, makes_hole, hole_look}
use Rattle.paper.specs.Map.{Map, label}
use Rattle.laws_plane.specs.Edges.{On, IsEnd}
use Rattle.laws_graph.specs.Plane.{Plane, upward_up}
use Rattle.laws_map.specs.Keeps.{seg, edges, halves, vertices, Keeps}
use Rattle.laws_labels.specs.Spans.{span, OnSpan, EndOf}
use Rattle.laws_labels.specs.Clear.{Within, whole-edge}

pub record Lawful (m : Map) : Type 0 where
  pub plane : Plane m.graph
  -- an edge is a part of its carrier
  pub within : (k : ℕ) → k < edges m → Within (seg m k) (low m.graph k) (high m.graph k)
  -- a point that two edges share is an end of both
  pub share : (i j : ℕ) → i < edges m → j < edges m → (i ≡ j → ⊥) → (q : Pt) → pos 0 <ℤ q.D → OnSpan (span m i) q → OnSpan (span m j) q → EndOf (span m i) q × EndOf (span m j) q
  pub used : (v : ℕ) → v < vertices m → (h : ℕ) × (h < halves m) × (origin m.graph h ≡ v)
  pub one_label : (h : ℕ) → h < halves m → label m (follower m.graph h) ≡ label m h
  pub hole-label : (h : ℕ) → h < halves m → makes_hole m.graph (followers m.graph) h ≡ true → label m h ≡ or_zero (label m) (hole_look m.graph (followers m.graph) h)

module _ (m : Map) (K : Keeps m) where
  on_seg_lem : (k : ℕ) → k < edges m → (q : Pt) → OnSpan (span m k) q → On (seg m k) q
  on_seg_lem k l q o = record {
    line = o.line;
    low = ap (before q) (K.foot_is k l) ∙ o.low;
    high = ap (λ (p : Pt). before p q) (K.head_is k l) ∙ o.high;
  }

  end-span : (k : ℕ) → k < edges m → (q : Pt) → IsEnd (seg m k) q → EndOf (span m k) q
  end-span k l q (inl e) = inl (ap (λ (p : Pt). same p q) (sym (K.foot_is k l)) ∙ e)
  end-span k l q (inr e) = inr (ap (λ (p : Pt). same p q) (sym (K.head_is k l)) ∙ e)

  pub keeps-lawful : Lawful m
  keeps-lawful = record {
    plane = K.plane;
    within = λ k l. subst₂ (Within (seg m k)) (K.foot_is k l) (K.head_is k l) (whole-edge (seg m k) (upward_up m.graph K.plane k l));
    share = λ i j li lj d q hq a b. let (x, y) = K.share i j li lj d q hq (on_seg_lem i li q a) (on_seg_lem j lj q b) in (end-span i li q x, end-span j lj q y);
    used = K.used;
    one_label = K.one_label;
    hole-label = K.hole-label;
  }
