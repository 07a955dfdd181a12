-- Past a point v: from what lies west of v or arrives at it to what lies west of v or leaves it. The test on points is "is v"; nothing is assumed of the edge.
-- What lies strictly west is one cut, just above v and just under it: no move is needed. Assumes nothing.
use Rattle.std.specs.Prelude.{◌≡◌, refl, true, false, not, ◌&&◌, T, pos, ◌-ℤ◌, ◌<ℤ◌}
use Rattle.std.proofs.Common.{sym, ◌∙◌, ap, subst}
use Rattle.std.proofs.Math.IntN.{+ℤ_invr}
use Rattle.exact.specs.Sign.{Sign, neg, zer, plus, sgn, is_neg, is_zer, is_plus, sums}
use Rattle.exact.specs.Signs.{neg_is}
use Rattle.seq.specs.Terms.{ind}
use Rattle.paper.specs.Plane.{Pt, nowhere, order, same, the_left_by}
use Rattle.laws_plane.specs.Points.{after, order_trans}
use Rattle.laws_plane.specs.Sides.{left_same-sign}
use Rattle.laws_labels.specs.Spans.{Span, Good}
use Rattle.laws_labels.specs.Cuts.{lo, hi, reach_above, above, under}
use Rattle.laws_labels.proofs.Cuts.{above_through, above_strict, under_through, under_strict}

-- a and b are the signs of v against the lower and the upper end, s that of v against the edge: lower < upper, and where v is an end, it is on the edge
through-signs : (a b s : Sign) → T (sums a neg b) → (a ≡ zer → s ≡ zer) → (b ≡ zer → s ≡ zer) →
    ind ((not (is_neg a) && is_neg b) && not (is_plus s)) -ℤ ind ((is_plus a && not (is_plus b)) && not (is_plus s)) ≡ ind (is_zer a) -ℤ ind (is_zer b)
through-signs neg neg s t f g = refl
through-signs neg zer s t f g = absurd t
through-signs neg plus s t f g = absurd t
through-signs zer neg s t f g = ap (λ (s : Sign). ind (not (is_plus s)) -ℤ pos 0) (f refl)
through-signs zer zer s t f g = absurd t
through-signs zer plus s t f g = absurd t
through-signs plus neg s t f g = +ℤ_invr (ind (not (is_plus s)))
through-signs plus zer s t f g = ap (λ (s : Sign). pos 0 -ℤ ind (not (is_plus s))) (g refl)
through-signs plus plus s t f g = refl

strict-signs : (a b s : Sign) → T (sums a neg b) → (a ≡ zer → s ≡ zer) → (b ≡ zer → s ≡ zer) → ((not (is_neg a) && is_neg b) && is_neg s) ≡ ((is_plus a && not (is_plus b)) && is_neg s)
strict-signs neg neg s t f g = refl
strict-signs neg zer s t f g = absurd t
strict-signs neg plus s t f g = absurd t
strict-signs zer neg s t f g = ap is_neg (f refl)
strict-signs zer zer s t f g = absurd t
strict-signs zer plus s t f g = absurd t
strict-signs plus neg s t f g = refl
strict-signs plus zer s t f g = sym (ap is_neg (g refl))
strict-signs plus plus s t f g = refl

module _ (v : Pt) (d : pos 0 <ℤ v.D) (e : Span) (u : Good e) where
  -- v against the two ends
  ends : T (sums (order v (lo e)) neg (order v (hi e)))
  ends = subst (λ (s : Sign). T (sums (order v (lo e)) s (order v (hi e)))) (neg_is (order (lo e) (hi e)) u.climbs) (order_trans v (lo e) (hi e) d u.p_real u.r_real)

  -- an end is on the edge
  lo_at : order v (lo e) ≡ zer → sgn (the_left_by e.line v) ≡ zer
  lo_at h = left_same-sign e.line v (lo e) d u.p_real (ap is_zer h) ∙ ap sgn u.p_on

  hi_at : order v (hi e) ≡ zer → sgn (the_left_by e.line v) ≡ zer
  hi_at h = left_same-sign e.line v (hi e) d u.r_real (ap is_zer h) ∙ ap sgn u.r_on

  pub through : ind (above true v nowhere e) -ℤ ind (under true v nowhere e) ≡ ind (same v (lo e)) -ℤ ind (same v (hi e))
  through =
      let s = sgn (the_left_by e.line v) in
      (λ i. ind (above_through v e i) -ℤ ind (under_through v e i))
      ∙ (λ i. ind (reach_above v e && not (is_plus s)) -ℤ ind ((after v (lo e) i && not (after v (hi e) i)) && not (is_plus s)))
      ∙ through-signs (order v (lo e)) (order v (hi e)) s ends lo_at hi_at

  pub strict_both : above false v nowhere e ≡ under false v nowhere e
  strict_both =
      let s = sgn (the_left_by e.line v) in
      above_strict v e
      ∙ strict-signs (order v (lo e)) (order v (hi e)) s ends lo_at hi_at
      ∙ (λ i. (sym (after v (lo e)) i && not (sym (after v (hi e)) i)) && is_neg s)
      ∙ sym (under_strict v e)
