-- Edges with the ends that they have (`Span`): a line, and two points of it, the lower first. An edge of a map is one, and so is a piece of the overlay, whose ends are no corners. What is asked of it
-- is that its ends are points of its line, the lower before the upper (`Good`). Then points on it and inside it. Assumes nothing.
use Rattle.std.specs.Prelude.{◌≡◌, true, false, ◌⊎◌, ℕ, pos, ◌<ℤ◌}
use Rattle.std.proofs.Common.{inl, inr}
use Rattle.exact.specs.Tests.{clash}
use Rattle.paper.specs.Plane.{Pt, Seg, before, same, the_left_by}
use Rattle.paper.specs.Graph.{edge, low, high}
use Rattle.paper.specs.Map.{Map}
use Rattle.laws_plane.specs.Cone.{UpV}
use Rattle.laws_plane.specs.Points.{before_irr, before_asym, same_neither, same_sym}

pub record Span : Type 0 where
  pub line : Seg
  pub bottom : Pt
  pub top : Pt

abbrev pub lo : Span → Pt
lo e = e.bottom

abbrev pub hi : Span → Pt
hi e = e.top

-- edge k of a map
abbrev pub span : Map → ℕ → Span
span m k = record { line = (edge m.graph k).carrier; bottom = low m.graph k; top = high m.graph k }

-- from p up to r, on the line of f
pub record Segment (f : Seg) (p r : Pt) : Type 0 where
  pub p_real : pos 0 <ℤ p.D
  pub r_real : pos 0 <ℤ r.D
  pub rises : UpV f.up
  pub p_on : the_left_by f p ≡ pos 0
  pub r_on : the_left_by f r ≡ pos 0
  pub climbs : before p r ≡ true

abbrev pub Good : Span → Type 0
Good e = Segment e.line e.bottom e.top

-- ── points of it ──

pub record OnSpan (e : Span) (q : Pt) : Type 0 where
  pub line : the_left_by e.line q ≡ pos 0
  pub low : before q (lo e) ≡ false
  pub high : before (hi e) q ≡ false

pub record InsideSpan (e : Span) (q : Pt) : Type 0 where
  pub line : the_left_by e.line q ≡ pos 0
  pub low : before (lo e) q ≡ true
  pub high : before q (hi e) ≡ true

abbrev pub EndOf : Span → Pt → Type 0
EndOf e q = (same (lo e) q ≡ true) ⊎ (same (hi e) q ≡ true)

module _ (e : Span) where
  pub on_lo : Good e → OnSpan e (lo e)
  on_lo g = record { line = g.p_on; low = before_irr (lo e); high = before_asym (lo e) (hi e) g.climbs }

  pub on_hi : Good e → OnSpan e (hi e)
  on_hi g = record { line = g.r_on; low = before_asym (lo e) (hi e) g.climbs; high = before_irr (hi e) }

  pub inside_on_span : (q : Pt) → InsideSpan e q → OnSpan e q
  inside_on_span q o = record { line = o.line; low = before_asym (lo e) q o.low; high = before_asym q (hi e) o.high }

  pub end_not_inside-span : (q : Pt) → EndOf e q → InsideSpan e q → ⊥
  end_not_inside-span q (inl s) o = clash o.low (same_neither (lo e) q s)
  end_not_inside-span q (inr s) o = clash o.high (same_neither q (hi e) (same_sym (hi e) q s))
