-- The main move: along a segment p → r of an edge f, from the cut just above p to the cut just under r, on either side.
--     slide    ind (under on r f e) - ind (above on p f e) = ind (Z (lo e)) - ind (Z (hi e)),   Z z: p < z < r, and z strictly left of f
-- By where e's ends lie in height (not above p, between, not below r), and the signs of four sides. `Apart` is what is assumed of those; Clear has it from
-- geometry. Assumes nothing.
use Rattle.std.specs.Prelude.{◌≡◌, refl, Bool, true, false, ◌&&◌, T, pos, ◌-ℤ◌, ◌<ℤ◌}
use Rattle.exact.specs.Sign.{sgn, is_plus, sums, NotOpposite, NotSame}
use Rattle.exact.specs.Tests.{clash}
use Rattle.exact.specs.Signs.{sums-swap}
use Rattle.paper.specs.Plane.{Pt, Seg, cross, before, the_left_by}
use Rattle.laws_plane.specs.Points.{le_before}
use Rattle.laws_plane.specs.Sides.{meet-signs, pass-signs}
use Rattle.laws_labels.specs.Spans.{Span, Segment, Good}
use Rattle.laws_labels.specs.Cuts.{lo, hi}

-- strictly between p and r, strictly left of f
unfoldable pub left_of : Pt → Pt → Seg → Pt → Bool
left_of p r f z = (before p z && before z r) && is_plus (sgn (the_left_by f z))

-- ── where a point lies in height: not above p, strictly between, not below r ──

pub data Level : Type 0 where
  low mid high : Level

abbrev pub over_p : Level → Bool
over_p low = false
over_p mid = true
over_p high = true

abbrev pub under_r : Level → Bool
under_r low = true
under_r mid = true
under_r high = false

pub record At (p r z : Pt) (l : Level) : Type 0 where
  pub from_p : before p z ≡ over_p l
  pub to_r : before z r ≡ under_r l

pub level : (p r z : Pt) → pos 0 <ℤ p.D → pos 0 <ℤ r.D → pos 0 <ℤ z.D → before p r ≡ true → (l : Level) × At p r z l
level p r z hp hr hz c = go (before p z) (before z r) refl refl
  where
    go : (a b : Bool) → before p z ≡ a → before z r ≡ b → (l : Level) × At p r z l
    go true true e f = (mid, record { from_p = e; to_r = f })
    go true false e f = (high, record { from_p = e; to_r = f })
    go false true e f = (low, record { from_p = e; to_r = f })
    go false false e f = absurd (clash (le_before z p r hz hp hr e c) f)

-- ── the signs ──

module _ (f : Seg) (p r : Pt) (e : Span) (s : Segment f p r) (ue : Good e) where
  pub sums-hi : before p (hi e) ≡ true → T (sums (sgn (the_left_by e.line p)) (sgn (the_left_by f (hi e))) (sgn (cross f.up e.line.up)))
  sums-hi b = meet-signs f e.line p (hi e) s.p_on ue.r_on s.rises ue.rises s.p_real ue.r_real b

  pub sums-lo : before (lo e) r ≡ true → T (sums (sgn (the_left_by e.line r)) (sgn (the_left_by f (lo e))) (sgn (cross e.line.up f.up)))
  sums-lo b =
      sums-swap (sgn (the_left_by f (lo e))) (sgn (the_left_by e.line r)) (sgn (cross e.line.up f.up))
      (meet-signs e.line f (lo e) r ue.p_on s.r_on ue.rises s.rises ue.p_real s.r_real b)

  pub sums_both : T (sums (sgn (the_left_by e.line r)) (sgn (cross f.up e.line.up)) (sgn (the_left_by e.line p)))
  sums_both = pass-signs f e.line p r s.p_on s.r_on s.rises s.p_real s.r_real s.climbs

-- ── the move ──

-- what is assumed of the edge e
pub record Apart (f : Seg) (p r : Pt) (e : Span) : Type 0 where
  pub lo_off : At p r (lo e) mid → the_left_by f (lo e) ≡ pos 0 → ⊥
  pub hi_off : At p r (hi e) mid → the_left_by f (hi e) ≡ pos 0 → ⊥
  pub spans : At p r (lo e) low → At p r (hi e) high → NotOpposite (the_left_by e.line p) (the_left_by e.line r)
  pub ends : At p r (lo e) low → At p r (hi e) mid → NotSame (the_left_by e.line p) (the_left_by f (hi e))
  pub starts : At p r (lo e) mid → At p r (hi e) high → NotSame (the_left_by e.line r) (the_left_by f (lo e))
  pub inside : At p r (lo e) mid → At p r (hi e) mid → NotOpposite (the_left_by f (lo e)) (the_left_by f (hi e))
