-- The definitions of `exact`, all that has to be believed of it. In order: the sign of a whole number and the tests on signs; the sign of a pair in point order; the greatest common divisor; a point as a triple,
-- and the triple in lowest terms (01, "Points, sides, followers"). Their laws are in Order, Sign, Gcd and Lowest, which pass these names on. Assumes nothing.
use Rattle.std.specs.Prelude.{◌≡◌, Bool, true, false, ℕ, zero, suc, ◌%◌, ℤ, pos, negsuc, nat_abs, ◌<ℤ◌}
use Rattle.std.specs.Int.Signed.{quot_z}

-- ── signs ──

-- the sign of an integer, as data
pub data Sign : Type 0 where
  neg zer plus : Sign

abbrev pub sgn : ℤ → Sign
sgn (pos zero) = zer
sgn (pos (suc n)) = plus
sgn (negsuc n) = neg

-- the tests on signs
abbrev pub is_neg : Sign → Bool
is_neg neg = true
is_neg zer = false
is_neg plus = false

abbrev pub is_zer : Sign → Bool
is_zer neg = false
is_zer zer = true
is_zer plus = false

abbrev pub is_plus : Sign → Bool
is_plus neg = false
is_plus zer = false
is_plus plus = true

abbrev pub neg_s : Sign → Sign
neg_s neg = plus
neg_s zer = zer
neg_s plus = neg

-- ── the sign of a pair (y, x) in point order: that of y, or of x where y is 0 ──

abbrev pub pick : Sign → Sign → Sign
pick neg s = neg
pick zer s = s
pick plus s = plus

abbrev pub lex_s : ℤ → ℤ → Sign
lex_s y x = pick (sgn y) (sgn x)

-- ── the greatest common divisor: "Euclid's recursion on remainders, the second number falling" ──

-- with fuel that bounds the second number
unfoldable pub gcd_f : ℕ → ℕ → ℕ → ℕ
gcd_f zero a b = a
gcd_f (suc f) a zero = a
gcd_f (suc f) a (suc b) = gcd_f f (suc b) (a % suc b)

unfoldable pub gcd_of : ℕ → ℕ → ℕ
unfolding gcd_f
gcd_of a b = gcd_f b a b

-- of three
abbrev pub gcd3 : ℕ → ℕ → ℕ → ℕ
gcd3 x y d = gcd_of (gcd_of x y) d

-- ── a point ──

-- "(X, Y, D) with D > 0, meaning the point X/D, Y/D"
pub record Pt : Type 0 where
  pub X : ℤ
  pub Y : ℤ
  pub D : ℤ

abbrev pub pt : ℤ → ℤ → ℤ → Pt
pt X Y D = record { X = X; Y = Y; D = D }

-- "divided by the greatest common divisor of the three"
abbrev pub lowest : ℤ → ℤ → ℤ → Pt
lowest X Y D =
    let g = pos (gcd3 (nat_abs X) (nat_abs Y) (nat_abs D)) in record { X = quot_z X g; Y = quot_z Y g; D = quot_z D g }

-- a triple in lowest terms
pub record Lowest (p : Pt) : Type 0 where
  pub positive : pos 0 <ℤ p.D
  pub coprime : gcd3 (nat_abs p.X) (nat_abs p.Y) (nat_abs p.D) ≡ 1
