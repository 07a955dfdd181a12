-- What the laws of a graph ask of it (`Plane`), and what follows for one edge: one of its half-edges goes up, the other down; where they start and
-- end; and that a half-edge's heading is the direction from its start to its end. A map in which rules 6 to 8 find nothing is such a graph: Corners
-- and Rules. Assumes nothing.
use Rattle.std.specs.Prelude.{◌≡◌, refl, ◌⊎◌, ◌<◌, ◌<ℤ◌, ◌+◌, ◌*◌, ◌/◌}
use Rattle.std.proofs.Common.{sym, ◌∙◌, ap, subst, inl, inr, ⊎_elim, arith}
use Rattle.std.proofs.Math.Decide.{dec_lt}
use Rattle.std.proofs.Math.ListN.{get_or-eq_default}
use Rattle.seq.specs.Seq.{Bool, true, false, cond, not, ℕ, length, pos, neg_ℤ}
use Rattle.seq.specs.Tests.{clash, not-true, not-false, way}
use Rattle.paper.specs.Plane.{Pt, whole, nowhere, dir, cross, opposite, rises, before, same, lower, upper}
use Rattle.paper.specs.Graph.{Graph, edge_count, the_half_count, point, edge, twin, origin, start, low, high, goes_up, upward, heading, left_of}
use Rattle.laws_plane.specs.Cone.{UpV, NonZero, rises_up, up_nonzero, opposite-nonzero, rises-opposite}
use Rattle.laws_plane.specs.Points.{after, before_asym, neither}
use Rattle.laws_plane.specs.Ends.{0<1, lower_is, upper_is, lower-flip, upper-flip, lower-upper, lower_before}
use Rattle.laws_plane.specs.Angles.{cross-swap, cross_back, SameWay}
use Rattle.laws_plane.specs.Sides.{chord}
use Rattle.laws_graph.specs.Halves.{twin-twin, twin-half, twin_below, half_below, half_first, half-second, first_below, second_below, twin_first, twin-second, Which, first, second, which}

pub record Plane (g : Graph) : Type 0 where
  -- each vertex is a point, and no two are one point
  pub real : (v : ℕ) → v < length g.points → pos 0 <ℤ (point g v).D
  pub distinct : (u v : ℕ) → u < length g.points → v < length g.points → same (point g u) (point g v) ≡ true → u ≡ v
  -- a half-edge starts at a vertex, and ends at another
  pub starts : (h : ℕ) → h < the_half_count g → origin g h < length g.points
  pub moves : (h : ℕ) → h < the_half_count g → origin g h ≡ origin g (twin h) → ⊥
  -- a carrier goes up, and the ends of its edge are on its line
  pub rising : (k : ℕ) → k < edge_count g → rises (upward g k) ≡ true
  pub on_line : (h : ℕ) → h < the_half_count g → left_of g (start g h) (h / 2) ≡ pos 0
  -- no two half-edges with one origin have one angle
  pub apart : (h r : ℕ) → h < the_half_count g → r < the_half_count g → origin g h ≡ origin g r → SameWay (heading g h) (heading g r) → h ≡ r

-- ── the two half-edges of an edge ──

module _ (g : Graph) where
  up_by : (h : ℕ) → goes_up g h ≡ true → Which h → (low g (h / 2) ≡ start g h) × (high g (h / 2) ≡ start g (twin h))
  up_by h u (first e) =
      let t : twin h ≡ 2 * (h / 2) + 1 = ap twin e ∙ twin_first (h / 2) in (
        (λ i. lower (start g (sym e i)) (start g (sym t i))) ∙ lower_is (start g h) (start g (twin h)) u,
        (λ i. upper (start g (sym e i)) (start g (sym t i))) ∙ upper_is (start g h) (start g (twin h)) u,
      )
  up_by h u (second e) =
      let t : twin h ≡ 2 * (h / 2) = ap twin e ∙ twin-second (h / 2) in (
        (λ i. lower (start g (sym t i)) (start g (sym e i))) ∙ lower-flip (start g h) (start g (twin h)) u,
        (λ i. upper (start g (sym t i)) (start g (sym e i))) ∙ upper-flip (start g h) (start g (twin h)) u,
      )

  -- one that goes up starts at the lower end and ends at the upper
  pub up_ends : (h : ℕ) → goes_up g h ≡ true → (low g (h / 2) ≡ start g h) × (high g (h / 2) ≡ start g (twin h))
  up_ends h u = up_by h u (which h)

module _ (g : Graph) (P : Plane g) where
  pub upward_up : (k : ℕ) → k < edge_count g → UpV (upward g k)
  upward_up k l = rises_up (upward g k) (P.rising k l)

  pub real_at : (v : ℕ) → pos 0 <ℤ (point g v).D
  real_at v =
      elim (dec_lt v (length g.points)) [
        | yes l ↦ P.real v l
        | no l ↦ subst (λ (p : Pt). pos 0 <ℤ p.D) (sym (get_or-eq_default g.points (whole nowhere) (omega arith))) 0<1
      ]

  -- the two ends of an edge are two points
  pub ends_differ : (h : ℕ) → h < the_half_count g → same (start g h) (start g (twin h)) ≡ false
  ends_differ h l =
      not-true (same (start g h) (start g (twin h)))
      (λ e. P.moves h l (P.distinct (origin g h) (origin g (twin h)) (P.starts h l) (P.starts (twin h) (twin_below g h l)) e))

  -- one of two twins goes up
  pub goes_up-twin : (h : ℕ) → h < the_half_count g → goes_up g (twin h) ≡ not (goes_up g h)
  goes_up-twin h l = ap (λ (x : ℕ). before (start g (twin h)) (start g x)) (twin-twin h) ∙ go (goes_up g h) refl
    where
      go : (c : Bool) → goes_up g h ≡ c → before (start g (twin h)) (start g h) ≡ not c
      go true e = before_asym (start g h) (start g (twin h)) e
      go false e = not-false (before (start g (twin h)) (start g h)) (λ f. clash (neither (start g h) (start g (twin h)) e f) (ends_differ h l))

  -- one that goes down starts at the upper end and ends at the lower
  pub down_ends : (h : ℕ) → h < the_half_count g → goes_up g h ≡ false → (high g (h / 2) ≡ start g h) × (low g (h / 2) ≡ start g (twin h))
  down_ends h l d =
      let r = up_ends g (twin h) (goes_up-twin h l ∙ ap not d) in
      (ap (high g) (sym (twin-half h)) ∙ r.1 ∙ ap (start g) (twin-twin h), ap (low g) (sym (twin-half h)) ∙ r.0)

  -- ── the two ends of edge k ──

  pub ends_real : (k : ℕ) → (pos 0 <ℤ (low g k).D) × (pos 0 <ℤ (high g k).D)
  ends_real k = go (before (start g (2 * k + 1)) (start g (2 * k)))
    where
      go : (c : Bool) → (pos 0 <ℤ (cond c (start g (2 * k + 1)) (start g (2 * k))).D) × (pos 0 <ℤ (cond c (start g (2 * k)) (start g (2 * k + 1))).D)
      go true = (real_at (origin g (2 * k + 1)), real_at (origin g (2 * k)))
      go false = (real_at (origin g (2 * k)), real_at (origin g (2 * k + 1)))

  module _ (k : ℕ) (l : k < edge_count g) where
    pub low_high : before (low g k) (high g k) ≡ true
    low_high = lower_before (start g (2 * k)) (start g (2 * k + 1)) (⊎_elim (λ u. inl (up u)) (λ d. inr (down d)) (way (goes_up g (2 * k))))
      where
        up : goes_up g (2 * k) ≡ true → before (start g (2 * k)) (start g (2 * k + 1)) ≡ true
        up u = ap (λ (x : ℕ). before (start g (2 * k)) (start g x)) (sym (twin_first k)) ∙ u

        down : goes_up g (2 * k) ≡ false → before (start g (2 * k + 1)) (start g (2 * k)) ≡ true
        down d =
            (λ i. before (start g (sym (twin_first k) i)) (start g (sym (twin-twin (2 * k)) i)))
            ∙ goes_up-twin (2 * k) (first_below k g l) ∙ ap not d

    first_on : left_of g (start g (2 * k)) k ≡ pos 0
    first_on = ap (left_of g (start g (2 * k))) (sym (half_first k)) ∙ P.on_line (2 * k) (first_below k g l)

    second_on : left_of g (start g (2 * k + 1)) k ≡ pos 0
    second_on = ap (left_of g (start g (2 * k + 1))) (sym (half-second k)) ∙ P.on_line (2 * k + 1) (second_below k g l)

    -- both are on its line
    pub ends_on : (left_of g (low g k) k ≡ pos 0) × (left_of g (high g k) k ≡ pos 0)
    ends_on = go (lower-upper (start g (2 * k)) (start g (2 * k + 1)))
      where
        at : {p q : Pt} → p ≡ q → left_of g q k ≡ pos 0 → left_of g p k ≡ pos 0
        at {p} {q} e f = ap (λ (r : Pt). left_of g r k) e ∙ f

        go : ((low g k ≡ start g (2 * k)) × (high g k ≡ start g (2 * k + 1))) ⊎ ((low g k ≡ start g (2 * k + 1)) × (high g k ≡ start g (2 * k)))
            → (left_of g (low g k) k ≡ pos 0) × (left_of g (high g k) k ≡ pos 0)
        go (inl r) = (at r.0 first_on, at r.1 second_on)
        go (inr r) = (at r.0 second_on, at r.1 first_on)

  -- ── headings ──

  module _ (h : ℕ) (l : h < the_half_count g) where
    up_moves : NonZero (upward g (h / 2))
    up_moves = up_nonzero (upward g (h / 2)) (upward_up (h / 2) (half_below g h l))

    pub heading-moves : NonZero (heading g h)
    heading-moves = go (goes_up g h)
      where
        go : (c : Bool) → NonZero (cond c (upward g (h / 2)) (opposite (upward g (h / 2))))
        go true = up_moves
        go false = opposite-nonzero (upward g (h / 2)) up_moves

    -- the heading is in the first half exactly if h goes up
    pub heading-rises : rises (heading g h) ≡ goes_up g h
    heading-rises = go (goes_up g h)
      where
        go : (c : Bool) → rises (cond c (upward g (h / 2)) (opposite (upward g (h / 2)))) ≡ c
        go true = P.rising (h / 2) (half_below g h l)
        go false = rises-opposite (upward g (h / 2)) up_moves ∙ ap not (P.rising (h / 2) (half_below g h l))

    -- its edge's direction is parallel to the way from its start to its end
    along-chord : cross (upward g (h / 2)) (dir (start g h) (start g (twin h))) ≡ pos 0
    along-chord =
        chord (edge g (h / 2)).carrier (start g h) (start g (twin h)) (P.on_line h l)
        (ap (left_of g (start g (twin h))) (sym (twin-half h)) ∙ P.on_line (twin h) (twin_below g h l))

    -- the heading is the direction from the start to the end
    pub heading-along : SameWay (heading g h) (dir (start g h) (start g (twin h)))
    heading-along = record { parallel = go (goes_up g h); half = heading-rises ∙ after (start g (twin h)) (start g h) }
      where
        go : (c : Bool) → cross (cond c (upward g (h / 2)) (opposite (upward g (h / 2)))) (dir (start g h) (start g (twin h))) ≡ pos 0
        go true = along-chord
        go false =
            cross-swap (dir (start g h) (start g (twin h))) (opposite (upward g (h / 2)))
            ∙ ap neg_ℤ (cross_back (dir (start g h) (start g (twin h))) (upward g (h / 2)) ∙ ap neg_ℤ (cross-swap (upward g (h / 2)) (dir (start g h) (start g (twin h))) ∙ ap neg_ℤ along-chord))
