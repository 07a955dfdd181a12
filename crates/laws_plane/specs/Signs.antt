-- Signs of sides and turns, apart from the numbers whose signs they are. In order: products; a place from a side; opposite signs. The tests on signs and the sign of a sum are in exact's Signs. Assumes nothing.
use Rattle.std.specs.Prelude.{◌≡◌, refl, true, T}
use Rattle.std.proofs.Common.{sym, ◌∙◌, ap, subst}
use Rattle.exact.specs.Sign.{Sign, neg, zer, plus, neg_s, sums}
use Rattle.exact.specs.Signs.{neg_back}
use Rattle.exact.specs.Tests.{clash, never}
use Rattle.paper.specs.Plane.{opposed}

-- ── products ──

abbrev pub times_s : Sign → Sign → Sign
times_s neg s = neg_s s
times_s zer s = zer
times_s plus s = s

pub times-plus : (k : Sign) → k ≡ times_s k plus
times-plus neg = refl
times-plus zer = refl
times-plus plus = refl

pub times-neg : (k : Sign) → neg_s k ≡ times_s k neg
times-neg neg = refl
times-neg zer = refl
times-neg plus = refl

pub times-zer : (k : Sign) → zer ≡ times_s k zer
times-zer neg = refl
times-zer zer = refl
times-zer plus = refl

-- a place from a side that is not 0
pub place : (s o : Sign) → (s ≡ zer → ⊥) → s ≡ times_s s o → o ≡ plus
place neg o n e = sym (neg_back o) ∙ ap neg_s (sym e)
place zer o n e = absurd (n refl)
place plus o n e = sym e

pub back_place : (s o : Sign) → (s ≡ zer → ⊥) → s ≡ times_s (neg_s s) o → o ≡ neg
back_place neg o n e = sym e
back_place zer o n e = absurd (n refl)
back_place plus o n e = sym (neg_back o) ∙ ap neg_s (sym e)

-- ── opposite signs ──

-- the turn has the side of the first
pub turn-side : (s t k : Sign) → opposed s t ≡ true → T (sums t k s) → k ≡ s
turn-side neg neg k e h = never e
turn-side neg zer k e h = never e
turn-side neg plus neg e h = refl
turn-side neg plus zer e h = absurd h
turn-side neg plus plus e h = absurd h
turn-side zer t k e h = never e
turn-side plus neg neg e h = absurd h
turn-side plus neg zer e h = absurd h
turn-side plus neg plus e h = refl
turn-side plus zer k e h = never e
turn-side plus plus k e h = never e

-- so the first point is before q, and the second after it
pub opposed-places : (s t o r : Sign) → opposed s t ≡ true → s ≡ times_s s o → t ≡ times_s s r → (o ≡ plus) × (r ≡ neg)
opposed-places neg neg o r e f g = never e
opposed-places neg zer o r e f g = never e
opposed-places neg plus o r e f g = (sym (neg_back o) ∙ ap neg_s (sym f), sym (neg_back r) ∙ ap neg_s (sym g))
opposed-places zer t o r e f g = never e
opposed-places plus neg o r e f g = (sym f, sym g)
opposed-places plus zer o r e f g = never e
opposed-places plus plus o r e f g = never e

pub strict : (s t : Sign) → opposed s t ≡ true → s ≡ zer → ⊥
strict s t e z = clash (subst (λ (k : Sign). opposed k t ≡ true) z e) refl

pub two_sides : (k : Sign) → (k ≡ zer → ⊥) → opposed k (neg_s k) ≡ true
two_sides neg n = refl
two_sides zer n = absurd (n refl)
two_sides plus n = refl
