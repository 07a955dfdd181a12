-- The cases of the height operation in their order: refusals 14, 15 and 16, and the height; and the whole from a refusal and a height, as code has them. Assumes nothing.
use Rattle.std.specs.Prelude.{◌≡◌, refl, Float, ◌∷◌}
use Rattle.std.proofs.Common.{◌∙◌}
use Rattle.seq.specs.Seq.{Bool, true, false, not, ℕ, [], Option}
use Rattle.paper.specs.Refusal.{Refusal, given, first_of, answer, Answer, done}
use Rattle.paper.specs.Tide.{TideRule, unset, Reading, missing, Height, is_unset, in_range, readings_good, tide_refusal, height_of, nearest_whole, tide_of, tide}

-- refusal n with map 0 and place 0, whatever would be answered otherwise
abbrev pub no : ℕ → Answer Height
no n = answer (tide_of unset missing missing) (given n 0 true)

-- by the three tests
abbrev by : Height → Bool → Bool → Bool → Answer Height
by r u i g = answer r (first_of (given 14 0 u ∷ given 15 0 (not i) ∷ given 16 0 (not g) ∷ []))

tide_is : (t : TideRule) (x y : Reading) → tide t x y ≡ by (tide_of t x y) (is_unset t) (in_range t) (readings_good t x y)
unfolding tide
tide_is t x y = refl

-- ── the cases ──

pub no_rule : (x y : Reading) → tide unset x y ≡ no 14
no_rule x y = tide_is unset x y

pub out_of_range : (t : TideRule) (x y : Reading) → is_unset t ≡ false → in_range t ≡ false → tide t x y ≡ no 15
out_of_range t x y u i = tide_is t x y ∙ (λ k. by (tide_of t x y) (u k) (i k) (readings_good t x y))

pub unread : (t : TideRule) (x y : Reading) → is_unset t ≡ false → in_range t ≡ true → readings_good t x y ≡ false → tide t x y ≡ no 16
unread t x y u i g = tide_is t x y ∙ (λ k. by (tide_of t x y) (u k) (i k) (g k))

pub answered : (t : TideRule) (x y : Reading) → is_unset t ≡ false → in_range t ≡ true → readings_good t x y ≡ true → tide t x y ≡ done (tide_of t x y)
answered t x y u i g = tide_is t x y ∙ (λ k. by (tide_of t x y) (u k) (i k) (g k))

-- ── as code has them: f is what is refused, h the height, v the rule ──

module _ (t : TideRule) (x y : Reading) {f : Option Refusal} {h : Float} (p : f ≡ tide_refusal t x y) (q : h ≡ height_of t x y) where
  pub tide_by : {v : TideRule} → v ≡ t → answer (record { height = h; millimetres = nearest_whole h; rule = v }) f ≡ tide t x y
  unfolding tide
  tide_by r = λ i. answer (record { height = q i; millimetres = nearest_whole (q i); rule = r i }) (p i)
