-- The half-edges on the two sides of an edge of a plane graph: on its east side is the one that goes down, from the upper end to the lower; on its west side the one that goes up. Assumes nothing.
use Rattle.std.specs.Prelude.{◌≡◌, refl, ◌<◌, ◌+◌, ◌*◌, ◌/◌}
use Rattle.std.proofs.Common.{sym, ◌∙◌, ap, arith}
use Rattle.seq.specs.Seq.{Bool, true, false, cond, not, ℕ}
use Rattle.seq.specs.Tests.{clash}
use Rattle.paper.specs.Plane.{opposite}
use Rattle.paper.specs.Graph.{Graph, edge_count, the_half_count, twin, start, low, high, goes_up, upward, heading, east_side}
use Rattle.laws_graph.specs.Halves.{twin-half, twin_below, half_below, half_first, half-second, twin_first, first_below, Which, first, second, which}
use Rattle.laws_graph.specs.Plane.{Plane, goes_up-twin, down_ends}

half_by : (k : ℕ) (c : Bool) → cond c (2 * k + 1) (2 * k) / 2 ≡ k
half_by k true = half-second k
half_by k false = half_first k

-- it is one of the two of edge k
pub east-half : (g : Graph) (k : ℕ) → east_side g k / 2 ≡ k
east-half g k = half_by k (goes_up g (2 * k))

pub east-once : (g : Graph) (j k : ℕ) → east_side g j ≡ east_side g k → j ≡ k
east-once g j k e = sym (east-half g j) ∙ ap (λ (h : ℕ). h / 2) e ∙ east-half g k

module _ (g : Graph) where
  below_by : (k : ℕ) (c : Bool) → k < edge_count g → cond c (2 * k + 1) (2 * k) < the_half_count g
  below_by k true l = omega arith
  below_by k false l = omega arith

  pub east_below : (k : ℕ) → k < edge_count g → east_side g k < the_half_count g
  east_below k l = below_by k (goes_up g (2 * k)) l

module _ (g : Graph) (P : Plane g) (k : ℕ) (l : k < edge_count g) where
  down_by : (c : Bool) → goes_up g (2 * k) ≡ c → goes_up g (cond c (2 * k + 1) (2 * k)) ≡ false
  down_by true e = ap (goes_up g) (sym (twin_first k)) ∙ goes_up-twin g P (2 * k) (first_below k g l) ∙ ap not e
  down_by false e = e

  -- it goes down
  pub east_down : goes_up g (east_side g k) ≡ false
  east_down = down_by (goes_up g (2 * k)) refl

  -- from the upper end
  pub east-start : start g (east_side g k) ≡ high g k
  east-start = sym (down_ends g P (east_side g k) (east_below g k l) east_down).0 ∙ ap (high g) (east-half g k)

  -- to the lower
  pub east-end : start g (twin (east_side g k)) ≡ low g k
  east-end = sym (down_ends g P (east_side g k) (east_below g k l) east_down).1 ∙ ap (low g) (east-half g k)

  pub east-heading : heading g (east_side g k) ≡ opposite (upward g k)
  east-heading = (λ i. cond (east_down i) (upward g (east-half g k i)) (opposite (upward g (east-half g k i))))

-- and no other half-edge of the edge goes down
module _ (g : Graph) (P : Plane g) (h : ℕ) (l : h < the_half_count g) (d : goes_up g h ≡ false) where
  is_by : Which h → (c : Bool) → goes_up g (2 * (h / 2)) ≡ c → cond c (2 * (h / 2) + 1) (2 * (h / 2)) ≡ h
  is_by (first e) true u = absurd (clash (ap (goes_up g) e ∙ u) d)
  is_by (first e) false u = sym e
  is_by (second e) true u = sym e
  is_by (second e) false u = absurd (clash (up u) d)
    where
      up : goes_up g (2 * (h / 2)) ≡ false → goes_up g h ≡ true
      up u = ap (goes_up g) (e ∙ sym (twin_first (h / 2))) ∙ goes_up-twin g P (2 * (h / 2)) (first_below (h / 2) g (half_below g h l)) ∙ ap not u

  pub east_is : east_side g (h / 2) ≡ h
  east_is = is_by (which h) (goes_up g (2 * (h / 2))) refl

-- ── the west side ──

abbrev pub west_side : Graph → ℕ → ℕ
west_side g k = twin (east_side g k)

module _ (g : Graph) (k : ℕ) where
  pub west-half : west_side g k / 2 ≡ k
  west-half = twin-half (east_side g k) ∙ east-half g k

  pub west_below : k < edge_count g → west_side g k < the_half_count g
  west_below l = twin_below g (east_side g k) (east_below g k l)

module _ (g : Graph) (P : Plane g) (k : ℕ) (l : k < edge_count g) where
  pub west_up : goes_up g (west_side g k) ≡ true
  west_up = goes_up-twin g P (east_side g k) (east_below g k l) ∙ ap not (east_down g P k l)

  pub west-start : start g (west_side g k) ≡ low g k
  west-start = east-end g P k l

  pub west-heading : heading g (west_side g k) ≡ upward g k
  west-heading = λ i. cond (west_up i) (upward g (west-half g k i)) (opposite (upward g (west-half g k i)))
