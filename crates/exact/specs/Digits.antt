-- Numbers by a last digit: w·i + j with j < w. Cells of rows of w: below w·n where i is below n, and past it where i is not; the rows that there is room for. Of two numbers the lesser has no
-- greater i; and a greater number has no lesser quotient.
-- Assumes nothing.
use Rattle.std.specs.Prelude.{ℕ, suc, ◌+◌, ◌*◌, ◌/◌, ◌≤◌, ◌<◌}
use Rattle.std.proofs.Common.{mul-suc, suc-mul, mul-le-mul_left, mul-le-mul_right, div-add-mod', mod-lt, arith}
use Rattle.std.proofs.Math.Nat.{div-add-mod}
use Rattle.std.proofs.Math.Decide.{dec_lt}

-- cell j of row i, of m rows of w cells
pub in_rows : (w m i j : ℕ) → i < m → j < w → w * i + j < w * m
in_rows w m i j a b = omega (arith, mul-suc w i, mul-le-mul_left w a)

-- of a row past them: past them
pub past_rows : (w m i j : ℕ) → m ≤ i → w * m ≤ w * i + j
past_rows w m i j a = omega (arith, mul-le-mul_left w a)

-- the rows that there is room for
pub rows_fit : (w m x : ℕ) → m ≤ x / w → w * m ≤ x
rows_fit w m x h = omega (arith, mul-le-mul_left w h, div-add-mod x w)

pub digits_less : (m a b x y : ℕ) → x < m → a * m + y < b * m + x → a ≤ b
digits_less m a b x y h l = elim (dec_lt b a) [ yes q ↦ absurd (omega (arith, mul-le-mul_right {m = suc b} {n = a} m q, suc-mul b m)) | no q ↦ omega arith ]

pub div-rises : (a b d : ℕ) → 0 < d → a ≤ b → a / d ≤ b / d
div-rises a b d h l =
    elim (dec_lt (b / d) (a / d)) [
      | yes q ↦ absurd (omega (arith, mul-le-mul_right d q, suc-mul (b / d) d, div-add-mod' a d, div-add-mod' b d, mod-lt b h))
      | no q ↦ omega arith
    ]
