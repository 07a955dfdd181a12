-- Signs by their tests: which sign it is, which tests shut out others, the sign turned round; the number that has it, and its multiples; and the sign of a
-- sum. Assumes nothing.
use Rattle.std.specs.Prelude.{◌≡◌, refl, true, false, T, ℤ, pos, ◌*ℤ◌, ◌≤ℤ◌, ◌<ℤ◌}
use Rattle.std.proofs.Common.{sym}
use Rattle.exact.specs.Order.{<→≤, ≤-of-≡}
use Rattle.exact.specs.Sign.{Sign, neg, zer, plus, sgn, sgn_is, sg-scale, sums, is_neg, is_zer, is_plus, neg_s, Sg, is_neg_lem, is_zer_lem, is_plus_lem, sg}
use Rattle.exact.specs.Tests.{never, T_true}

-- ---- which sign
pub neg_is : (s : Sign) → is_neg s ≡ true → s ≡ neg
neg_is neg e = refl
neg_is zer e = never e
neg_is plus e = never e

pub zer_is : (s : Sign) → is_zer s ≡ true → s ≡ zer
zer_is neg e = never e
zer_is zer e = refl
zer_is plus e = never e

pub plus_is : (s : Sign) → is_neg s ≡ false → is_zer s ≡ false → s ≡ plus
plus_is neg e f = never (sym e)
plus_is zer e f = never (sym f)
plus_is plus e f = refl

-- ---- one test and another
pub neg_not_plus : (s : Sign) → is_neg s ≡ true → is_plus s ≡ false
neg_not_plus neg e = refl
neg_not_plus zer e = refl
neg_not_plus plus e = never e

pub plus_not-neg : (s : Sign) → is_plus s ≡ true → is_neg s ≡ false
plus_not-neg neg e = never e
plus_not-neg zer e = refl
plus_not-neg plus e = refl

-- ---- turned round
pub neg-turned : (s : Sign) → is_neg (neg_s s) ≡ is_plus s
neg-turned neg = refl
neg-turned zer = refl
neg-turned plus = refl

pub plus-turned : (s : Sign) → is_plus (neg_s s) ≡ is_neg s
plus-turned neg = refl
plus-turned zer = refl
plus-turned plus = refl

pub neg_back : (s : Sign) → neg_s (neg_s s) ≡ s
neg_back neg = refl
neg_back zer = refl
neg_back plus = refl

-- ---- the number
module _ (z : ℤ) where
  pub zero_is : is_zer (sgn z) ≡ true → z ≡ pos 0
  zero_is = go (sg z)
    where
      go : {s : Sign} → Sg z s → is_zer s ≡ true → z ≡ pos 0
      go (is_neg_lem h) e = never e
      go (is_zer_lem h) e = h
      go (is_plus_lem h) e = never e

  pub less_is : is_neg (sgn z) ≡ true → z <ℤ pos 0
  less_is = go (sg z)
    where
      go : {s : Sign} → Sg z s → is_neg s ≡ true → z <ℤ pos 0
      go (is_neg_lem h) e = h
      go (is_zer_lem h) e = never e
      go (is_plus_lem h) e = never e

  pub not_less_is : is_neg (sgn z) ≡ false → pos 0 ≤ℤ z
  not_less_is = go (sg z)
    where
      go : {s : Sign} → Sg z s → is_neg s ≡ false → pos 0 ≤ℤ z
      go (is_neg_lem h) e = never (sym e)
      go (is_zer_lem h) e = ≤-of-≡ (sym h)
      go (is_plus_lem h) e = <→≤ h

  pub sgn-scale : (c : ℤ) → pos 0 <ℤ c → sgn (c *ℤ z) ≡ sgn z
  sgn-scale c h = sgn_is (c *ℤ z) (sg-scale c z h (sg z))

-- ---- a sum: of three signs the third is that of the sum of the two
pub le-lt : (s t u : Sign) → T (sums s t u) → is_plus s ≡ false → is_neg t ≡ true → is_neg u ≡ true
le-lt neg neg u h e f = T_true (is_neg u) h
le-lt zer neg u h e f = T_true (is_neg u) h
le-lt plus neg u h e f = never (sym e)
le-lt s zer u h e f = never f
le-lt s plus u h e f = never f

pub lt-le : (s t u : Sign) → T (sums s t u) → is_neg s ≡ true → is_plus t ≡ false → is_neg u ≡ true
lt-le neg neg u h e f = T_true (is_neg u) h
lt-le neg zer u h e f = T_true (is_neg u) h
lt-le neg plus u h e f = never (sym f)
lt-le zer t u h e f = never e
lt-le plus t u h e f = never e

pub zer-sum : (s u : Sign) → T (sums zer s u) → s ≡ u
zer-sum neg neg t = refl
zer-sum neg zer t = absurd t
zer-sum neg plus t = absurd t
zer-sum zer neg t = absurd t
zer-sum zer zer t = refl
zer-sum zer plus t = absurd t
zer-sum plus neg t = absurd t
zer-sum plus zer t = absurd t
zer-sum plus plus t = refl

pub not_less-sum : (s t u : Sign) → T (sums s t u) → is_neg s ≡ false → is_plus t ≡ true → is_neg u ≡ false
not_less-sum neg t u h e f = never (sym e)
not_less-sum zer neg u h e f = never f
not_less-sum zer zer u h e f = never f
not_less-sum zer plus neg h e f = absurd h
not_less-sum zer plus zer h e f = refl
not_less-sum zer plus plus h e f = refl
not_less-sum plus neg u h e f = never f
not_less-sum plus zer u h e f = never f
not_less-sum plus plus neg h e f = absurd h
not_less-sum plus plus zer h e f = refl
not_less-sum plus plus plus h e f = refl

pub sums-swap : (s t u : Sign) → T (sums s t u) → T (sums t s u)
sums-swap neg neg u h = h
sums-swap neg zer u h = h
sums-swap neg plus u h = h
sums-swap zer neg u h = h
sums-swap zer zer u h = h
sums-swap zer plus u h = h
sums-swap plus neg u h = h
sums-swap plus zer u h = h
sums-swap plus plus u h = h

-- a sum of two numbers of one sign
pub same_sum : (s k : Sign) → T (sums s s k) → k ≡ s
same_sum neg neg t = refl
same_sum neg zer t = absurd t
same_sum neg plus t = absurd t
same_sum zer neg t = absurd t
same_sum zer zer t = refl
same_sum zer plus t = absurd t
same_sum plus neg t = absurd t
same_sum plus zer t = absurd t
same_sum plus plus t = refl
