-- What the code reckons of whole numbers is what the definitions reckon of points with denominator 1. Assumes nothing.
use Rattle.std.specs.Prelude.{◌+ℤ◌, ◌-ℤ◌, ◌*ℤ◌}
use mathlib.Core.Path.{◌≡◌, ◌∙◌, ap}
use mathlib.Core.List.{[], ◌∷◌}
use lib.Signed.{lt_z}
use Rattle.seq.specs.Seq.{ℤ, pos}
use Rattle.exact.specs.Solve.{ring, reify}
use Rattle.exact.specs.Sign.{sgn, is_neg}
use Rattle.exact.specs.Tests.{lt-sign}
use Rattle.paper.specs.Plane.{vec, whole, below, the_left_by, cross}
use Rattle.paper.specs.Soundings.{east}
use Rattle.plane.specs.Values.{seg}

pub left_whole : (x y u v a b : ℤ) → u *ℤ (b -ℤ y) -ℤ v *ℤ (a -ℤ x) ≡ the_left_by (seg x y u v) (whole (vec a b))
left_whole x y u v a b = ring (x ∷ y ∷ u ∷ v ∷ a ∷ b ∷ []) (search reify depth 20) tt

ones : (b y : ℤ) → b -ℤ y ≡ b *ℤ pos 1 -ℤ y *ℤ pos 1
ones b y = ring (b ∷ y ∷ []) (search reify depth 20) tt

pub below_whole : (a b x y : ℤ) → lt_z b y ≡ below (whole (vec a b)) (whole (vec x y))
below_whole a b x y = lt-sign b y ∙ ap (λ (z : ℤ). is_neg (sgn z)) (ones b y)

pub turn-east : (u v : ℤ) → v ≡ cross east (vec u v)
turn-east u v = ring (u ∷ v ∷ []) (search reify depth 20) tt
