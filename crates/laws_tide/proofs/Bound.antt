-- Of Bound of specs/, what rests on its definitions.
use Rattle.std.specs.Prelude.{◌≡◌, ◌^◌, ◌≤◌, ◌<◌, T, ◌∷◌, ◌&&◌, ◌+◌, ◌*◌}
use Rattle.std.proofs.Common.{◌∙◌, subst}
use Rattle.seq.specs.Seq.{[], none, Bool, not, ℕ, nat_abs}
use Rattle.seq.specs.Tests.{true_T, was-true}
use Rattle.paper.specs.Refusal.{given, done}
use Rattle.paper.specs.Tide.{TideRule, Reading, Height, is_unset, in_range, readings_good, tide_refusal, height_of, tide_of, tide}
use Rattle.laws_refusals.specs.Refusals.{nothing, given_none, done_none}
use Rattle.laws_tide.specs.AtMost.{AtMost}
use Rattle.laws_tide.specs.Bound.{height_at_most, nearest_at_most}

-- ── what is answered ──

-- nothing is refused: rule and readings are good
passed : (t : TideRule) (x y : Reading) → tide_refusal t x y ≡ none → T (in_range t) × T (readings_good t x y)
passed t x y e =
    let n = nothing (given 14 0 (is_unset t) ∷ given 15 0 (not (in_range t)) ∷ given 16 0 (not (readings_good t x y)) ∷ []) e in
    let kept : (r : ℕ) (b : Bool) → given r 0 (not b) ≡ none → T b = λ r b g. true_T (was-true b (given_none r 0 (not b) g)) in
    (kept 15 (in_range t) n.1.0, kept 16 (readings_good t x y) n.1.1.0)

pub height-small : (t : TideRule) (x y : Reading) → tide_refusal t x y ≡ none → AtMost 80000 (height_of t x y)
height-small t x y e = let p = passed t x y e in height_at_most t x y p.0 p.1

-- every height that is answered is finite and at most 80,000 before rounding, and as whole millimetres
pub tide-small : (t : TideRule) (x y : Reading) (r : Height) → tide t x y ≡ done r → AtMost 80000 r.height × (nat_abs r.millimetres ≤ 80000)
unfolding tide
tide-small t x y r e =
    let d = done_none (tide_of t x y) r (tide_refusal t x y) e in
    let h = height-small t x y d.0 in
    subst (λ (r : Height). AtMost 80000 r.height × (nat_abs r.millimetres ≤ 80000)) d.1 (h, nearest_at_most (height_of t x y) 80000 h)
