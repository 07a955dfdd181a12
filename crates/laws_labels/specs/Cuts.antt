-- The cuts. Heights are compared in point order (y, then x), as if the plane were tilted by an infinitely small amount: a level edge goes up from its west end
-- like any other, and no case is special. Of an edge e, a point p and a direction d:
--     above on p d e    e lies west of a segment that leaves p along d, of its left side (`on` = false) or its right side (`on` = true): lower end ≤ p < upper
--                       end, and p is strictly right of e, or on it and e's angle is greater than d's (`on`: or equal)
--     under on p d e    the same just under p, for a segment that arrives at p along d: lower end < p ≤ upper end
-- Along `nowhere` no edge turns: `above true p nowhere` is what lies west of p, goes through it or starts there, `above false p nowhere` what lies strictly west.
-- "p is right of e" is a sign: no division, no x at a height. Then: cuts that agree on the edges at p; one point by other numbers. Assumes nothing.
use Rattle.std.specs.Prelude.{◌≡◌, Bool, not, ◌&&◌, [], ◌∷◌, pos, ◌<ℤ◌}
use Rattle.std.proofs.Common.{sym, ◌∙◌}
use Rattle.std.proofs.Math.Bool.{true, false}
use Rattle.exact.specs.Solve.{ring, reify}
use Rattle.exact.specs.Sign.{zer, sgn, sgn_is, is_zer_lem}
use Rattle.paper.specs.Plane.{Pt, Vec, nowhere, cross, before, same, the_left_by}
use Rattle.laws_plane.specs.Points.{same_before}
use Rattle.laws_plane.specs.Sides.{left_same-sign}
pub use Rattle.laws_labels.specs.Spans.{lo, hi}
use Rattle.laws_labels.specs.Spans.{Span, Good}
use Rattle.laws_labels.specs.Near.{near}

-- in reach of p, just above it and just under it
abbrev pub reach_above : Pt → Span → Bool
reach_above p e = not (before p (lo e)) && before p (hi e)

abbrev pub reach_under : Pt → Span → Bool
reach_under p e = before (lo e) p && not (before (hi e) p)

unfoldable pub above : Bool → Pt → Vec → Span → Bool
above on p d e = reach_above p e && near on (sgn (the_left_by e.line p)) (sgn (cross d e.line.up))

unfoldable pub under : Bool → Pt → Vec → Span → Bool
under on p d e = reach_under p e && near on (sgn (the_left_by e.line p)) (sgn (cross e.line.up d))

-- the cut at the left (counter-clockwise) of a half-edge that leaves p, up along u (true) or down against it (false), and at its right
abbrev pub at_left : Pt → Bool → Vec → Span → Bool
at_left p true u = above false p u
at_left p false u = under true p u

abbrev pub at_right : Pt → Bool → Vec → Span → Bool
at_right p true u = above true p u
at_right p false u = under false p u

-- ── along nowhere ──

pub turn-nowhere : (u : Vec) → sgn (cross nowhere u) ≡ zer
turn-nowhere u = sgn_is (cross nowhere u) (is_zer_lem (ring (u.x ∷ u.y ∷ []) (search reify depth 20) tt))

pub nowhere-turn : (u : Vec) → sgn (cross u nowhere) ≡ zer
nowhere-turn u = sgn_is (cross u nowhere) (is_zer_lem (ring (u.x ∷ u.y ∷ []) (search reify depth 20) tt))

-- ── cuts that agree on the edges at p ──

-- e leaves p up (true) or down (false): it starts there, ends there or goes through
abbrev pub reach : Pt → Bool → Span → Bool
reach p true e = reach_above p e
reach p false e = reach_under p e

pub record Leaves (p : Pt) (b : Bool) (e : Span) : Type 0 where
  pub reaches : reach p b e ≡ true
  pub on : sgn (the_left_by e.line p) ≡ zer

-- one point by other numbers has one cut
pub above_same : (p q : Pt) → pos 0 <ℤ p.D → pos 0 <ℤ q.D → same p q ≡ true → (on : Bool) (d : Vec) (e : Span) → Good e → above on q d e ≡ above on p d e
unfolding above
above_same p q a b o on d e g i =
    (not (same_before p q (lo e) a b g.p_real o i) && same_before p q (hi e) a b g.r_real o i) && near on (sym (left_same-sign e.line p q a b o) i) (sgn (cross d e.line.up))
