-- What rules 6 to 9 say of the edges of a map, as the cuts use it. In order: an edge goes up, from one vertex to another; the two half-edges of an edge; no edge meets
-- the inside of another; none goes through a vertex; and no two start at one point with one angle. Assumes nothing.
use Rattle.std.specs.Prelude.{◌≡◌, refl, Bool, true, false, ℕ, ◌/◌, ◌<◌, pos, ◌<ℤ◌}
use Rattle.std.proofs.Common.{sym, ◌∙◌, ap, subst, inl, inr}
use Rattle.std.proofs.Math.Decide.{ℕ_discrete}
use Rattle.exact.specs.Tests.{clash}
use Rattle.paper.specs.Plane.{Pt, cross, rises, same}
use Rattle.paper.specs.Graph.{Graph, point, start, goes_up, heading, east_side}
use Rattle.paper.specs.Map.{Map}
use Rattle.laws_plane.specs.Points.{before_irr, same_self}
use Rattle.laws_plane.specs.Angles.{cross-self}
use Rattle.laws_graph.specs.Halves.{twin-once, half_below}
use Rattle.laws_graph.specs.Plane.{real_at, up_ends, down_ends}
use Rattle.laws_graph.specs.East.{east-once, east-start, east-end, west_side, west_below, west-heading}
use Rattle.laws_map.specs.Keeps.{seg, edges, halves, vertices}
use Rattle.laws_labels.specs.Lawful.{Lawful}
use Rattle.laws_labels.specs.Spans.{Span, lo, hi, span, Good, OnSpan, InsideSpan, EndOf, on_lo, on_hi, inside_on_span, end_not_inside-span}
use Rattle.laws_labels.specs.Clear.{Clear}
use Rattle.laws_labels.specs.Pot.{low_end, the_high_end}

-- the end of e at which a half-edge along it starts, going up or down
abbrev pub end_of : Bool → Span → Pt
end_of true e = lo e
end_of false e = hi e

module _ (m : Map) (K : Lawful m) where
  abbrev g : Graph
  g = m.graph

  pub good : (k : ℕ) → k < edges m → Good (span m k)
  good k l = (K.within k l).segment

  -- ── half-edges ──

  -- one starts at the lower end of its edge if it goes up, and at the upper end if it goes down
  pub start_is : (h : ℕ) → h < halves m → start g h ≡ end_of (goes_up g h) (span m (h / 2))
  start_is h l = go (goes_up g h) refl
    where
      go : (c : Bool) → goes_up g h ≡ c → start g h ≡ end_of c (span m (h / 2))
      go true u = sym (up_ends g h u).0
      go false d = sym (down_ends g K.plane h l d).0

  module _ (k : ℕ) (l : k < edges m) where
    pub at_low : point g (low_end m k) ≡ lo (span m k)
    at_low = east-end g K.plane k l

    pub at_high : point g (the_high_end m k) ≡ hi (span m k)
    at_high = east-start g K.plane k l

  -- ── no edge meets the inside of another ──

  clear_self : (e : Span) → Clear e.line (lo e) (hi e) e
  clear_self e = record {
    lo_off = λ a b z. clash a (before_irr (lo e));
    hi_off = λ a b z. clash b (before_irr (hi e));
    no_meet = λ n q h a b c d. n (cross-self e.line.up);
  }

  module _ (i j : ℕ) (li : i < edges m) (lj : j < edges m) (d : i ≡ j → ⊥) where
    -- a point strictly inside i is nowhere on j
    pub not_on : (q : Pt) → pos 0 <ℤ q.D → InsideSpan (span m i) q → OnSpan (span m j) q → ⊥
    not_on q h o b = end_not_inside-span (span m i) q (K.share i j li lj d q h (inside_on_span (span m i) q o) b).0 o

    clear_other : Clear (seg m i) (lo (span m i)) (hi (span m i)) (span m j)
    clear_other = record {
      lo_off = λ a b z. not_on (lo (span m j)) (good j lj).p_real (record { line = z; low = a; high = b }) (on_lo (span m j) (good j lj));
      hi_off = λ a b z. not_on (hi (span m j)) (good j lj).r_real (record { line = z; low = a; high = b }) (on_hi (span m j) (good j lj));
      no_meet = λ n q h a b c e. not_on q h (record { line = b.line; low = c; high = e }) a;
    }

  pub clear : (i j : ℕ) → i < edges m → j < edges m → Clear (seg m i) (lo (span m i)) (hi (span m i)) (span m j)
  clear i j li lj =
      elim (ℕ_discrete i j) [
        | yes e ↦ subst (λ (t : ℕ). Clear (seg m i) (lo (span m i)) (hi (span m i)) (span m t)) e (clear_self (span m i))
        | no d ↦ clear_other i j li lj d
      ]

  -- ── no edge goes through a vertex ──

  end_on : (c : Bool) (e : Span) → Good e → OnSpan e (end_of c e)
  end_on true e u = on_lo e u
  end_on false e u = on_hi e u

  end_is : (c : Bool) (e : Span) → EndOf e (end_of c e)
  end_is true e = inl (same_self (lo e))
  end_is false e = inr (same_self (hi e))

  pub no_through : (v j : ℕ) → v < vertices m → j < edges m → InsideSpan (span m j) (point g v) → ⊥
  no_through v j lv lj o =
      let (h, l, e) = K.used v lv in
      let i = h / 2 in
      let li = half_below g h l in
      let at : point g v ≡ end_of (goes_up g h) (span m i) = ap (point g) (sym e) ∙ start_is h l in
      elim (ℕ_discrete j i) [
        | yes q ↦ end_not_inside-span (span m j) (point g v)
            (subst (λ (p : Pt). EndOf (span m j) p) (sym at) (subst (λ (k : ℕ). EndOf (span m k) (end_of (goes_up g h) (span m i))) (sym q) (end_is (goes_up g h) (span m i)))) o
        | no q ↦ not_on j i lj li q (point g v) (real_at g K.plane v) o (subst (λ (p : Pt). OnSpan (span m i) p) (sym at) (end_on (goes_up g h) (span m i) (good i li)))
      ]

  -- ── no two edges start at one point with one angle ──

  pub one_start : (i j : ℕ) → i < edges m → j < edges m → same (lo (span m i)) (lo (span m j)) ≡ true → cross (seg m i).up (seg m j).up ≡ pos 0 → i ≡ j
  one_start i j li lj s z =
      east-once g i j (twin-once (east_side g i) (east_side g j)
      (K.plane.apart (west_side g i) (west_side g j) (west_below g i li) (west_below g j lj) origins record { parallel = (λ t. cross (west-heading g K.plane i li t) (west-heading g K.plane j lj t)) ∙ z; half = halves_same }))
    where
      origins : low_end m i ≡ low_end m j
      origins = K.plane.distinct (low_end m i) (low_end m j) (K.plane.starts (west_side g i) (west_below g i li)) (K.plane.starts (west_side g j) (west_below g j lj)) ((λ t. same (at_low i li t) (at_low j lj t)) ∙ s)

      halves_same : rises (heading g (west_side g i)) ≡ rises (heading g (west_side g j))
      halves_same = ap rises (west-heading g K.plane i li) ∙ K.plane.rising i li ∙ sym (ap rises (west-heading g K.plane j lj) ∙ K.plane.rising j lj)
