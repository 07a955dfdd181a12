-- Graphs in whole numbers, as maps are: each vertex is a corner, no two of them one point, and each edge is its own carrier between two of them (`Laid`: what rules 6 and 7 leave). In order:
-- the carrier of an edge goes up, from its lower end to its upper (`carrier_up`, `foot_low`, `head_high`); half-edges start at the ends of their edge (`starts`, `moves`, `on_line`, `down_start`).
-- Assumes nothing.
use Rattle.std.specs.Prelude.{◌≡◌, refl, ◌⊎◌, ◌<◌, ◌+◌, ◌*◌, ◌/◌}
use Rattle.std.proofs.Common.{sym, ◌∙◌, ap, subst, inl, inr, ⊎_elim}
use Rattle.std.proofs.Math.ListN.{get_or-map}
use Rattle.seq.specs.Seq.{Bool, true, false, List, map, ℕ, length, get_or, pos}
use Rattle.seq.specs.Tests.{not-false}
use Rattle.paper.specs.Plane.{Pt, Vec, whole, nowhere, head, between, before, same, lower, upper}
use Rattle.paper.specs.Graph.{Graph, edge_count, the_half_count, point, edge, twin, origin, start, low, high, goes_up, upward, left_of}
use Rattle.paper.specs.Map.{corner}
use Rattle.laws_plane.specs.Cone.{UpV}
use Rattle.laws_plane.specs.Points.{neither}
use Rattle.laws_plane.specs.Ends.{lower-upper}
use Rattle.laws_plane.specs.Sides.{left_foot, left_head}
use Rattle.laws_plane.specs.Edges.{between_foot, between_head, between_up}
use Rattle.laws_graph.specs.Halves.{twin-twin, twin-half, twin_below, half_below, twin_first, twin-second, origin_first, origin-second, Which, first, second, which}
use Rattle.laws_graph.specs.Plane.{up_ends}

pub record Laid (g : Graph) : Type 0 where
  pub corners : List Vec
  pub points-are : g.points ≡ map whole corners
  pub carried : (k : ℕ) → k < edge_count g → (edge g k).carrier ≡ between (corner corners (edge g k).from) (corner corners (edge g k).to)
  -- 6: no two vertices are one point
  pub distinct : (u v : ℕ) → u < length g.points → v < length g.points → same (point g u) (point g v) ≡ true → u ≡ v
  -- 7: an edge's ends are two vertices
  pub from_below : (k : ℕ) → k < edge_count g → (edge g k).from < length g.points
  pub to_below : (k : ℕ) → k < edge_count g → (edge g k).to < length g.points
  pub two : (k : ℕ) → k < edge_count g → (edge g k).from ≡ (edge g k).to → ⊥

module _ (g : Graph) (L : Laid g) where
  pub point_is : (v : ℕ) → point g v ≡ whole (corner L.corners v)
  point_is v = ap (λ (ps : List Pt). get_or ps v (whole nowhere)) L.points-are ∙ get_or-map whole L.corners v nowhere

  -- ── the ends of edge k ──

  module _ (k : ℕ) (l : k < edge_count g) where
    abbrev a : Vec
    a = corner L.corners (edge g k).from

    abbrev b : Vec
    b = corner L.corners (edge g k).to

    first_is : start g (2 * k) ≡ whole a
    first_is = ap (point g) (origin_first k g) ∙ point_is (edge g k).from

    second_is : start g (2 * k + 1) ≡ whole b
    second_is = ap (point g) (origin-second k g) ∙ point_is (edge g k).to

    -- they are two points, one before the other
    apart_ends : (before (whole a) (whole b) ≡ true) ⊎ (before (whole b) (whole a) ≡ true)
    apart_ends = go (before (whole a) (whole b)) (before (whole b) (whole a)) refl refl
      where
        one : same (whole a) (whole b) ≡ true → ⊥
        one e =
            L.two k l (L.distinct (edge g k).from (edge g k).to (L.from_below k l) (L.to_below k l)
            ((λ i. same (point_is (edge g k).from i) (point_is (edge g k).to i)) ∙ e))

        go : (x y : Bool) → before (whole a) (whole b) ≡ x → before (whole b) (whole a) ≡ y → (x ≡ true) ⊎ (y ≡ true)
        go true y e f = inl refl
        go false true e f = inr refl
        go false false e f = absurd (one (neither (whole a) (whole b) e f))

    -- the carrier runs from the lower end to the upper
    pub foot_low : whole (edge g k).carrier.foot ≡ low g k
    foot_low = ap (λ s. whole s.foot) (L.carried k l) ∙ between_foot a b ∙ sym (λ i. lower (first_is i) (second_is i))

    pub head_high : whole (head (edge g k).carrier) ≡ high g k
    head_high = ap (λ s. whole (head s)) (L.carried k l) ∙ between_head a b ∙ sym (λ i. upper (first_is i) (second_is i))

    pub carrier_up : UpV (upward g k)
    carrier_up = subst (λ s. UpV s.up) (sym (L.carried k l)) (between_up a b apart_ends)

    -- both ends are on its line
    pub ends_on_line : (left_of g (start g (2 * k)) k ≡ pos 0) × (left_of g (start g (2 * k + 1)) k ≡ pos 0)
    ends_on_line = go (lower-upper (start g (2 * k)) (start g (2 * k + 1)))
      where
        on_low : left_of g (low g k) k ≡ pos 0
        on_low = ap (λ (p : Pt). left_of g p k) (sym foot_low) ∙ left_foot (edge g k).carrier

        on_high : left_of g (high g k) k ≡ pos 0
        on_high = ap (λ (p : Pt). left_of g p k) (sym head_high) ∙ left_head (edge g k).carrier

        at : {p q : Pt} → p ≡ q → left_of g p k ≡ pos 0 → left_of g q k ≡ pos 0
        at {p} {q} e f = ap (λ (r : Pt). left_of g r k) (sym e) ∙ f

        go : ((low g k ≡ start g (2 * k)) × (high g k ≡ start g (2 * k + 1))) ⊎ ((low g k ≡ start g (2 * k + 1)) × (high g k ≡ start g (2 * k)))
            → (left_of g (start g (2 * k)) k ≡ pos 0) × (left_of g (start g (2 * k + 1)) k ≡ pos 0)
        go (inl r) = (at r.0 on_low, at r.1 on_high)
        go (inr r) = (at r.1 on_high, at r.0 on_low)

  -- ── half-edges ──

  module _ (h : ℕ) (l : h < the_half_count g) where
    -- a half-edge goes from one end of its edge to the other
    runs : Which h → ((origin g h ≡ (edge g (h / 2)).from) × (origin g (twin h) ≡ (edge g (h / 2)).to)) ⊎ ((origin g h ≡ (edge g (h / 2)).to) × (origin g (twin h) ≡ (edge g (h / 2)).from))
    runs (first e) = inl (ap (origin g) e ∙ origin_first (h / 2) g, ap (origin g) (ap twin e ∙ twin_first (h / 2)) ∙ origin-second (h / 2) g)
    runs (second e) = inr (ap (origin g) e ∙ origin-second (h / 2) g, ap (origin g) (ap twin e ∙ twin-second (h / 2)) ∙ origin_first (h / 2) g)

    pub starts : origin g h < length g.points
    starts = ⊎_elim (λ r. at r.0 (L.from_below (h / 2) (half_below g h l))) (λ r. at r.0 (L.to_below (h / 2) (half_below g h l))) (runs (which h))
      where
        at : {u v : ℕ} → u ≡ v → v < length g.points → u < length g.points
        at {u} {v} e m = subst (λ (w : ℕ). w < length g.points) (sym e) m

    pub moves : origin g h ≡ origin g (twin h) → ⊥
    moves e = ⊎_elim (λ r. L.two (h / 2) (half_below g h l) (sym r.0 ∙ e ∙ r.1)) (λ r. L.two (h / 2) (half_below g h l) (sym r.1 ∙ sym e ∙ r.0)) (runs (which h))

    pub on_line : left_of g (start g h) (h / 2) ≡ pos 0
    on_line = go (which h) (ends_on_line (h / 2) (half_below g h l))
      where
        go : Which h → (left_of g (start g (2 * (h / 2))) (h / 2) ≡ pos 0) × (left_of g (start g (2 * (h / 2) + 1)) (h / 2) ≡ pos 0) → left_of g (start g h) (h / 2) ≡ pos 0
        go (first e) r = ap (λ (x : ℕ). left_of g (start g x) (h / 2)) e ∙ r.0
        go (second e) r = ap (λ (x : ℕ). left_of g (start g x) (h / 2)) e ∙ r.1

  -- one that goes down starts at the upper end
  pub down_start : (h : ℕ) → h < the_half_count g → goes_up g h ≡ false → start g h ≡ high g (h / 2)
  down_start h l e = sym (ap (high g) (sym (twin-half h)) ∙ (up_ends g (twin h) up).1 ∙ ap (start g) (twin-twin h))
    where
      two : before (start g (twin h)) (start g h) ≡ false → ⊥
      two f = moves h l (L.distinct (origin g h) (origin g (twin h)) (starts h l) (starts (twin h) (twin_below g h l)) (neither (start g h) (start g (twin h)) e f))

      up : goes_up g (twin h) ≡ true
      up = ap (λ (x : ℕ). before (start g (twin h)) (start g x)) (twin-twin h) ∙ not-false (before (start g (twin h)) (start g h)) two
