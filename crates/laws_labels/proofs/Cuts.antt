-- Of Cuts of specs/, what rests on its definitions.
use Rattle.std.specs.Prelude.{◌≡◌, Bool, not, ◌&&◌, [], ◌∷◌, ◌<ℤ◌}
use Rattle.std.proofs.Common.{◌∙◌}
use Rattle.std.proofs.Math.Path.{ap}
use Rattle.std.proofs.Math.Bool.{true, false}
use Rattle.exact.specs.Sign.{Sign, zer, sgn, is_neg, is_plus}
use Rattle.paper.specs.Plane.{Pt, Vec, nowhere, cross, the_left_by}
pub use Rattle.laws_labels.specs.Spans.{lo, hi}
use Rattle.laws_labels.specs.Spans.{Span}
use Rattle.laws_labels.specs.Near.{near, near-through, near-strict, near-agree}
use Rattle.laws_labels.specs.Cuts.{above, reach_above, turn-nowhere, under, reach_under, nowhere-turn, Leaves}

-- ── along nowhere ──

module _ (p : Pt) (e : Span) where
  abbrev s : Sign
  s = sgn (the_left_by e.line p)

  pub above_through : above true p nowhere e ≡ (reach_above p e && not (is_plus s))
  unfolding above
  above_through = ap (λ (b : Bool). reach_above p e && b) (ap (near true s) (turn-nowhere e.line.up) ∙ near-through s)

  pub above_strict : above false p nowhere e ≡ (reach_above p e && is_neg s)
  unfolding above
  above_strict = ap (λ (b : Bool). reach_above p e && b) (ap (near false s) (turn-nowhere e.line.up) ∙ near-strict s)

  pub under_through : under true p nowhere e ≡ (reach_under p e && not (is_plus s))
  unfolding under
  under_through = ap (λ (b : Bool). reach_under p e && b) (ap (near true s) (nowhere-turn e.line.up) ∙ near-through s)

  pub under_strict : under false p nowhere e ≡ (reach_under p e && is_neg s)
  unfolding under
  under_strict = ap (λ (b : Bool). reach_under p e && b) (ap (near false s) (nowhere-turn e.line.up) ∙ near-strict s)

-- ── cuts that agree on the edges at p ──

module _ (p : Pt) (e : Span) (on on' : Bool) (d d' : Vec) where
  pub above_agree : (Leaves p true e → near on zer (sgn (cross d e.line.up)) ≡ near on' zer (sgn (cross d' e.line.up))) → above on p d e ≡ above on' p d' e
  unfolding above
  above_agree h = near-agree (reach_above p e) (sgn (the_left_by e.line p)) on on' (sgn (cross d e.line.up)) (sgn (cross d' e.line.up)) (λ r z. h (record { reaches = r; on = z }))

  pub under_agree : (Leaves p false e → near on zer (sgn (cross e.line.up d)) ≡ near on' zer (sgn (cross e.line.up d'))) → under on p d e ≡ under on' p d' e
  unfolding under
  under_agree h = near-agree (reach_under p e) (sgn (the_left_by e.line p)) on on' (sgn (cross e.line.up d)) (sgn (cross e.line.up d')) (λ r z. h (record { reaches = r; on = z }))
