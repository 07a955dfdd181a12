-- Of Slide of specs/, what rests on its definitions.
use Rattle.std.specs.Prelude.{◌≡◌, refl, Bool, true, false, ◌&&◌, pos, ◌-ℤ◌, ◌<ℤ◌}
use Rattle.std.proofs.Math.Path.{sym}
use Rattle.std.proofs.Common.{◌∙◌, ap}
use Rattle.std.proofs.Math.Bool.{not}
use Rattle.std.proofs.Math.IntN.{+ℤ_invr}
use Rattle.exact.specs.Sign.{sgn, is_plus, plus_both}
use Rattle.exact.specs.Tests.{clash}
use Rattle.seq.specs.Terms.{ind}
use Rattle.paper.specs.Plane.{Pt, Seg, cross, before, the_left_by}
use Rattle.laws_plane.specs.Points.{before_trans}
use Rattle.laws_labels.specs.Spans.{Span, Segment, Good}
use Rattle.laws_labels.specs.Near.{near}
use Rattle.laws_labels.proofs.Near.{near-end, near-span}
use Rattle.laws_labels.specs.Cuts.{lo, hi, above, under}
use Rattle.laws_plane.specs.Angles.{turn-swap}
use Rattle.laws_labels.specs.Slide.{Apart, At, low, mid, sums-hi, high, sums-lo, sums_both, Level, under_r, over_p, left_of, level}

-- ── the move ──

module _ (f : Seg) (p r : Pt) (e : Span) (s : Segment f p r) (ue : Good e) where
  -- the upper end is not lower
  no_down_p : before p (hi e) ≡ false → before p (lo e) ≡ true → ⊥
  no_down_p h l = clash (before_trans p (lo e) (hi e) s.p_real ue.p_real ue.r_real l ue.climbs) h

  no_down_r : before (hi e) r ≡ true → before (lo e) r ≡ false → ⊥
  no_down_r h l = clash (before_trans (lo e) (hi e) r ue.p_real ue.r_real s.r_real ue.climbs h) l

  module _ (on : Bool) where
    -- the four tests: e at p, e at r, and its ends against f
    abbrev kp : Bool
    kp = near on (sgn (the_left_by e.line p)) (sgn (cross f.up e.line.up))

    abbrev kr : Bool
    kr = near on (sgn (the_left_by e.line r)) (sgn (cross e.line.up f.up))

    abbrev za : Bool
    za = is_plus (sgn (the_left_by f (lo e)))

    abbrev zb : Bool
    zb = is_plus (sgn (the_left_by f (hi e)))

    case_ends : Apart f p r e → At p r (lo e) low → At p r (hi e) mid → kp ≡ zb
    case_ends c a b = near-end on (the_left_by e.line p) (the_left_by f (hi e)) (cross f.up e.line.up) (sums-hi f p r e s ue b.from_p) (c.hi_off b) (c.ends a b)

    case_starts : Apart f p r e → At p r (lo e) mid → At p r (hi e) high → kr ≡ za
    case_starts c a b = near-end on (the_left_by e.line r) (the_left_by f (lo e)) (cross e.line.up f.up) (sums-lo f p r e s ue a.to_r) (c.lo_off a) (c.starts a b)

    case-spans : Apart f p r e → At p r (lo e) low → At p r (hi e) high → kr ≡ kp
    case-spans c a b =
        ap (near on (sgn (the_left_by e.line r))) (turn-swap f.up e.line.up)
        ∙ sym (near-span on (the_left_by e.line p) (the_left_by e.line r) (cross f.up e.line.up) (sums_both f p r e s ue) (c.spans a b))

    case-inside : Apart f p r e → At p r (lo e) mid → At p r (hi e) mid → za ≡ zb
    case-inside c a b = plus_both (the_left_by f (lo e)) (the_left_by f (hi e)) (c.lo_off a) (c.hi_off b) (c.inside a b)

    abbrev Claim : Level → Level → Type 0
    Claim l m =
        ind ((under_r l && not (under_r m)) && kr) -ℤ ind ((not (over_p l) && over_p m) && kp)
        ≡ ind ((over_p l && under_r l) && za) -ℤ ind ((over_p m && under_r m) && zb)

    claim : Apart f p r e → (l m : Level) → At p r (lo e) l → At p r (hi e) m → Claim l m
    claim c low low a b = refl
    claim c low mid a b = ap (λ (t : Bool). pos 0 -ℤ ind t) (case_ends c a b)
    claim c low high a b = ap (λ (t : Bool). ind t -ℤ ind kp) (case-spans c a b) ∙ +ℤ_invr (ind kp)
    claim c mid low a b = absurd (no_down_p b.from_p a.from_p)
    claim c mid mid a b = sym (ap (λ (t : Bool). ind t -ℤ ind zb) (case-inside c a b) ∙ +ℤ_invr (ind zb))
    claim c mid high a b = ap (λ (t : Bool). ind t -ℤ pos 0) (case_starts c a b)
    claim c high low a b = absurd (no_down_p b.from_p a.from_p)
    claim c high mid a b = absurd (no_down_r b.to_r a.to_r)
    claim c high high a b = refl

    pub slide : Apart f p r e → ind (under on r f.up e) -ℤ ind (above on p f.up e) ≡ ind (left_of p r f (lo e)) -ℤ ind (left_of p r f (hi e))
    unfolding above under left_of
    slide c =
        let a = level p r (lo e) s.p_real s.r_real ue.p_real s.climbs in
        let b = level p r (hi e) s.p_real s.r_real ue.r_real s.climbs in
        (λ i. ind ((a.1.to_r i && not (b.1.to_r i)) && kr) -ℤ ind ((not (a.1.from_p i) && b.1.from_p i) && kp))
        ∙ claim c a.0 b.0 a.1 b.1
        ∙ sym (λ i. ind ((a.1.from_p i && a.1.to_r i) && za) -ℤ ind ((b.1.from_p i && b.1.to_r i) && zb))
