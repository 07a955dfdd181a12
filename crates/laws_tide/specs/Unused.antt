-- What the height operation does not look at: both readings where the rule is none or out of range, and the second where it is a ratio. A NaN is out of every
-- range, and -0 counts as 0. Assumes nothing.
use Rattle.std.specs.Prelude.{◌≡◌, refl, Float, ◌&&◌}
use Rattle.std.proofs.Common.{sym, ◌∙◌}
use Rattle.std.specs.Float.{nan, fin}
use Rattle.std.specs.Float.Ieee.{le}
use Rattle.seq.specs.Seq.{Bool, true, false, pos}
use Rattle.paper.specs.Tide.{TideRule, unset, ratio, weights, Reading, is_unset, ratio_in, weight_in, in_range, tide}
use Rattle.laws_tide.specs.Cases.{no_rule, out_of_range}

pub second-unused : (r : Float) (x y z : Reading) → tide (ratio r) x y ≡ tide (ratio r) x z
unfolding tide
second-unused r x y z = refl

pub none_unused : (x y v w : Reading) → tide unset x y ≡ tide unset v w
none_unused x y v w = no_rule x y ∙ sym (no_rule v w)

pub range_first : (t : TideRule) (x y v w : Reading) → is_unset t ≡ false → in_range t ≡ false → tide t x y ≡ tide t v w
range_first t x y v w u i = out_of_range t x y u i ∙ sym (out_of_range t v w u i)

-- ── not a number, and -0 ──

pub nan_out : ratio_in nan ≡ false
unfolding le
nan_out = refl

pub nan_out_first : (b : Float) → in_range (weights nan b) ≡ false
unfolding le
nan_out_first b = refl

pub nan_out-second : (a : Float) → in_range (weights a nan) ≡ false
unfolding le
nan_out-second a = go (weight_in a)
  where
    go : (c : Bool) → (c && weight_in nan) ≡ false
    go true = refl
    go false = refl

pub minus-zero_in : weight_in (fin true 0 (pos 0)) ≡ true
unfolding le
minus-zero_in = refl
