-- Of Cases of specs/, what rests on its definitions.
use Rattle.std.specs.Prelude.{◌≡◌, Float, ◌∷◌}
use Rattle.std.proofs.Common.{sym, ◌∙◌, subst}
use Rattle.seq.specs.Seq.{[], Option, none}
use Rattle.paper.specs.Refusal.{Refusal}
use Rattle.paper.specs.Tide.{TideRule, Reading, tide_refusal, height_of}
use Rattle.laws_tide.specs.AtMost.{AtMost}
use Rattle.laws_tide.proofs.Bound.{height-small}

-- ── as code has them: f is what is refused, h the height, v the rule ──

module _ (t : TideRule) (x y : Reading) {f : Option Refusal} {h : Float} (p : f ≡ tide_refusal t x y) (q : h ≡ height_of t x y) where
  pub small_by : f ≡ none → AtMost 80000 h
  small_by n = subst (AtMost 80000) (sym q) (height-small t x y (sym p ∙ n))
