-- What the move along a segment assumes (`Apart` of Slide), from geometry: an edge e that has no end strictly inside the segment p → r of f and, where it is not
-- parallel to f, no point in common with f strictly inside, is apart from it (`apart`). An edge that covers the segment needs no clause. If the signs were
-- otherwise, the lines of e and f would meet at a point strictly inside, by the signs of laws_plane' Meeting. Assumes nothing.
use Rattle.std.specs.Prelude.{◌≡◌, true, false, T, ℤ, pos, ◌<ℤ◌}
use Rattle.std.proofs.Common.{sym, ◌∙◌, ap, subst}
use Rattle.exact.specs.Sign.{Sign, neg, zer, plus, sgn, sgn-plus, sgn-neg, is_neg, is_zer, is_plus, neg_s, sums, NotOpposite, NotSame}
use Rattle.exact.specs.Tests.{never}
use Rattle.exact.specs.Signs.{neg_back, same_sum}
use Rattle.paper.specs.Plane.{Pt, Seg, whole, head, cross, order, before, the_left_by, opposed}
use Rattle.laws_plane.specs.Cone.{UpV}
use Rattle.laws_plane.specs.Points.{after, before_asym, before_irr, before_trans, le_before, before_le}
use Rattle.laws_plane.specs.Ends.{0<1}
use Rattle.laws_plane.specs.Sides.{left_foot, left_head}
use Rattle.laws_plane.specs.Edges.{On, seg_up}
use Rattle.laws_plane.specs.Meeting.{Meet, lines-meet, side-order, opposite_turned, opposite-meet, lines-swap}
use Rattle.laws_plane.specs.Signs.{strict, times_s, place, back_place}
use Rattle.laws_labels.specs.Spans.{Span, lo, hi, Segment, Good, OnSpan}
use Rattle.laws_labels.specs.Slide.{low, mid, high, At, Apart, sums-lo, sums-hi}
use Rattle.laws_plane.specs.Angles.{turn-swap}

-- p and r stand on f between its ends
pub record Within (f : Seg) (p r : Pt) : Type 0 where
  pub segment : Segment f p r
  pub bottom : before p (whole f.foot) ≡ false
  pub top : before (whole (head f)) r ≡ false

-- e does not meet the inside of the segment, or lies along f with no end inside
pub record Clear (f : Seg) (p r : Pt) (e : Span) : Type 0 where
  pub lo_off : before p (lo e) ≡ true → before (lo e) r ≡ true → the_left_by f (lo e) ≡ pos 0 → ⊥
  pub hi_off : before p (hi e) ≡ true → before (hi e) r ≡ true → the_left_by f (hi e) ≡ pos 0 → ⊥
  pub no_meet : (cross f.up e.line.up ≡ pos 0 → ⊥) → (q : Pt) → pos 0 <ℤ q.D → OnSpan e q → On f q → before p q ≡ true → before q r ≡ true → ⊥

-- an edge is a segment of itself
pub whole-edge : (e : Seg) → UpV e.up → Within e (whole e.foot) (whole (head e))
whole-edge e u = record {
  segment = record { p_real = 0<1; r_real = 0<1; rises = u; p_on = left_foot e; r_on = left_head e; climbs = seg_up e u };
  bottom = before_irr (whole e.foot);
  top = before_irr (whole (head e));
}

-- ── signs ──

not_same : {x y : ℤ} → ((s : Sign) → (s ≡ zer → ⊥) → sgn x ≡ s → sgn y ≡ s → ⊥) → NotSame x y
not_same f = record { nn = λ h l. f neg (λ e. never (ap is_zer e)) (sgn-neg h) (sgn-neg l); pp = λ h l. f plus (λ e. never (ap is_zer e)) (sgn-plus h) (sgn-plus l) }

not_opposite : {x y : ℤ} → (opposed (sgn x) (sgn y) ≡ true → ⊥) → NotOpposite x y
not_opposite f = record { np = λ h l. f (λ i. opposed (sgn-neg h i) (sgn-plus l i)); pn = λ h l. f (λ i. opposed (sgn-plus h i) (sgn-neg l i)) }

-- ── the meeting point would be inside ──

module _ (f : Seg) (p r : Pt) (e : Span) (w : Within f p r) (ue : Good e) (c : Clear f p r e) where
  abbrev hp : pos 0 <ℤ p.D
  hp = w.segment.p_real

  abbrev hr : pos 0 <ℤ r.D
  hr = w.segment.r_real

  abbrev uf : UpV f.up
  uf = w.segment.rises

  abbrev K : Sign
  K = sgn (cross f.up e.line.up)

  turned : sgn (cross e.line.up f.up) ≡ neg_s K
  turned = turn-swap f.up e.line.up

  excluded : (K ≡ zer → ⊥) → (q : Pt) → Meet f e.line q → before q (lo e) ≡ false → before (hi e) q ≡ false → before p q ≡ true → before q r ≡ true → ⊥
  excluded n q m a b pq qr =
      c.no_meet (λ z. n (ap sgn z)) q m.real record { line = m.second; low = a; high = b }
      record {
        line = m.first;
        low = before_asym (whole f.foot) q (le_before (whole f.foot) p q 0<1 hp m.real w.bottom pq);
        high = before_asym q (whole (head f)) (before_le q r (whole (head f)) m.real hr 0<1 qr w.top);
      }
      pq qr

  -- two points of f with e between them
  spans_is : At p r (lo e) low → At p r (hi e) high → NotOpposite (the_left_by e.line p) (the_left_by e.line r)
  spans_is a b = not_opposite (λ o.
      let (q, m, pq, qr) = opposite-meet f e.line uf ue.rises p r hp hr w.segment.p_on w.segment.r_on w.segment.climbs o in
      excluded (λ z. strict (sgn (the_left_by e.line p)) (sgn (the_left_by e.line r)) o (sym (opposite_turned f e.line uf ue.rises p r hp hr w.segment.p_on w.segment.r_on w.segment.climbs o) ∙ z))
      q m (before_asym (lo e) q (le_before (lo e) p q ue.p_real hp m.real a.from_p pq)) (before_asym q (hi e) (before_le q r (hi e) m.real hr ue.r_real qr b.to_r)) pq qr)

  -- p is before the meeting point, and e's upper end after it
  ends_is : At p r (lo e) low → At p r (hi e) mid → NotSame (the_left_by e.line p) (the_left_by f (hi e))
  ends_is a b = not_same (λ s n x y.
      let k : K ≡ s = same_sum s K (subst (λ (t : Sign). T (sums s t K)) y (subst (λ (t : Sign). T (sums t (sgn (the_left_by f (hi e))) K)) x (sums-hi f p r e w.segment ue b.from_p))) in
      let (q, m) = lines-meet f e.line (λ z. n (sym k ∙ ap sgn z)) in
      let pq : before p q ≡ true = after q p ∙ ap is_plus (place s (order q p) n (sym x ∙ side-order f e.line uf ue.rises q m p hp w.segment.p_on ∙ ap (λ (t : Sign). times_s t (order q p)) k)) in
      let qb : before q (hi e) ≡ true = ap is_neg (back_place s (order q (hi e)) n (sym y ∙ side-order e.line f ue.rises uf q (lines-swap m) (hi e) ue.r_real ue.r_on ∙ ap (λ (t : Sign). times_s t (order q (hi e))) (turned ∙ ap neg_s k))) in
      excluded (λ z. n (sym k ∙ z)) q m (before_asym (lo e) q (le_before (lo e) p q ue.p_real hp m.real a.from_p pq)) (before_asym q (hi e) qb) pq (before_trans q (hi e) r m.real ue.r_real hr qb b.to_r))

  -- r is after it, and e's lower end before it
  starts_is : At p r (lo e) mid → At p r (hi e) high → NotSame (the_left_by e.line r) (the_left_by f (lo e))
  starts_is a b = not_same (λ s n x y.
      let k : sgn (cross e.line.up f.up) ≡ s = same_sum s (sgn (cross e.line.up f.up))
      (subst (λ (t : Sign). T (sums s t (sgn (cross e.line.up f.up)))) y (subst (λ (t : Sign). T (sums t (sgn (the_left_by f (lo e))) (sgn (cross e.line.up f.up)))) x (sums-lo f p r e w.segment ue a.to_r))) in
      let kf : K ≡ neg_s s = sym (neg_back K) ∙ ap neg_s (sym turned ∙ k) in
      let nk : K ≡ zer → ⊥ = λ z. n (sym k ∙ turned ∙ ap neg_s z) in
      let (q, m) = lines-meet f e.line (λ z. nk (ap sgn z)) in
      let qr : before q r ≡ true = ap is_neg (back_place s (order q r) n (sym x ∙ side-order f e.line uf ue.rises q m r hr w.segment.r_on ∙ ap (λ (t : Sign). times_s t (order q r)) kf)) in
      let aq : before (lo e) q ≡ true = after q (lo e) ∙ ap is_plus (place s (order q (lo e)) n (sym y ∙ side-order e.line f ue.rises uf q (lines-swap m) (lo e) ue.p_real ue.p_on ∙ ap (λ (t : Sign). times_s t (order q (lo e))) k)) in
      excluded nk q m (before_asym (lo e) q aq) (before_asym q (hi e) (before_le q r (hi e) m.real hr ue.r_real qr b.to_r)) (before_trans p (lo e) q hp ue.p_real m.real a.from_p aq) qr)

  -- two points of e with f between them
  inside_is : At p r (lo e) mid → At p r (hi e) mid → NotOpposite (the_left_by f (lo e)) (the_left_by f (hi e))
  inside_is a b = not_opposite (λ o.
      let (q, m, aq, qb) = opposite-meet e.line f ue.rises uf (lo e) (hi e) ue.p_real ue.r_real ue.p_on ue.r_on ue.climbs o in
      excluded (λ z. opposite-apart o z) q (lines-swap m) (before_asym (lo e) q aq) (before_asym q (hi e) qb)
      (before_trans p (lo e) q hp ue.p_real m.real a.from_p aq) (before_trans q (hi e) r m.real ue.r_real hr qb b.to_r))
    where
      opposite-apart : opposed (sgn (the_left_by f (lo e))) (sgn (the_left_by f (hi e))) ≡ true → K ≡ zer → ⊥
      opposite-apart o z = strict (sgn (the_left_by f (lo e))) (sgn (the_left_by f (hi e))) o (sym (opposite_turned e.line f ue.rises uf (lo e) (hi e) ue.p_real ue.r_real ue.p_on ue.r_on ue.climbs o) ∙ turned ∙ ap neg_s z)

  -- an edge that stays clear of the segment is apart from it
  pub apart : Apart f p r e
  apart = record {
    lo_off = λ a. c.lo_off a.from_p a.to_r;
    hi_off = λ b. c.hi_off b.from_p b.to_r;
    spans = spans_is;
    ends = ends_is;
    starts = starts_is;
    inside = inside_is;
  }
