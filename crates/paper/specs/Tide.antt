-- Height of tide for a zone (02, Ask 5). In order: what is taken and answered; what is refused; the height, and the nearest whole millimetre; the answer.
-- "Ratios and weights are 64-bit floats": values, operations and comparisons are those of `lib.Ieee`, where a float is `nan`, an infinity, or `fin s m e`, the number
-- m · 2 ^ e with a minus sign where s is true. Assumes nothing.
use Rattle.std.specs.Prelude.{Float, ◌&&◌, ◌∷◌, ◌+◌, ◌*◌, ◌/◌}
use Rattle.std.specs.Float.{nan, inf, fin, binary64}
use Rattle.std.specs.Float.Ieee.{up, down, le, mul, add, of_int}
use Rattle.seq.specs.Seq.{Bool, true, false, cond, not, [], Option, ℕ, leb, ℤ, pos, negsuc, neg_ℤ, nat_abs}
use Rattle.paper.specs.Limits.{gauge_reach}
use Rattle.paper.specs.Refusal.{given, first_of, answer, Refusal, Answer}

-- "none, a ratio of one gauge, or a pair of weights for two gauges"
pub data TideRule : Type 0 where
  unset : TideRule
  ratio : Float → TideRule
  weights : Float → Float → TideRule

-- "Gauge readings are whole millimetres .., or missing"
pub data Reading : Type 0 where
  missing : Reading
  at : ℤ → Reading

-- "The rule used is returned with the height": the float obtained, and whole millimetres
pub record Height : Type 0 where
  pub height : Float
  pub millimetres : ℤ
  pub rule : TideRule

-- ── what is refused ──

-- "a zone with rule none"
abbrev pub is_unset : TideRule → Bool
is_unset unset = true
is_unset (ratio r) = false
is_unset (weights a b) = false

-- from lo to hi, both included. Where x is not a number, both comparisons are false; -0 equals 0
abbrev pub within : Float → Float → Float → Bool
within lo hi x = le lo x && le x hi

-- "a ratio lies from 0.25 to 4, a weight from 0 to 1": from 2 ^ -2 to 2 ^ 2, and from 0 to 2 ^ 0
abbrev pub ratio_in : Float → Bool
ratio_in = within (fin false 1 (negsuc 1)) (fin false 1 (pos 2))

abbrev pub weight_in : Float → Bool
weight_in = within (fin false 0 (pos 0)) (fin false 1 (pos 0))

-- each ratio and weight of the rule is in its range
abbrev pub in_range : TideRule → Bool
in_range unset = true
in_range (ratio r) = ratio_in r
in_range (weights a b) = weight_in a && weight_in b

-- "whole millimetres from −20,000 to 20,000"
abbrev pub readable : Reading → Bool
readable missing = false
readable (at z) = leb (nat_abs z) gauge_reach

-- "The ratio is of the first gauge; a pair of weights uses both readings, a weight of 0 too"
abbrev pub readings_good : TideRule → Reading → Reading → Bool
readings_good unset x y = true
readings_good (ratio r) x y = readable x
readings_good (weights a b) x y = readable x && readable y

-- "14 for a zone with rule none, 15 for a ratio or weight outside its range or not a number, 16 for a reading missing or out of range, in that order"
abbrev pub tide_refusal : TideRule → Reading → Reading → Option Refusal
tide_refusal t x y = first_of (given 14 0 (is_unset t) ∷ given 15 0 (not (in_range t)) ∷ given 16 0 (not (readings_good t x y)) ∷ [])

-- ── the height ──

-- a reading as a float; up to 2 ^ 53 this is exact. A missing one stands in no height that is answered
abbrev pub gauge : Reading → Float
gauge missing = of_int binary64 (pos 0)
gauge (at z) = of_int binary64 z

-- "ratio times reading, or first weight times first reading plus second weight times second reading, each operation rounded once in that order".
-- By rule none there is no height, and what stands here is not answered
abbrev pub height_of : TideRule → Reading → Reading → Float
height_of unset x y = fin false 0 (pos 0)
height_of (ratio r) x y = mul binary64 r (gauge x)
height_of (weights a b) x y = add binary64 (mul binary64 a (gauge x)) (mul binary64 b (gauge y))

-- n with a minus sign where s is true
abbrev pub signed : Bool → ℕ → ℤ
signed s n = cond s (neg_ℤ (pos n)) (pos n)

-- n / d to the nearest whole number, a half up
abbrev pub the_half_up : ℕ → ℕ → ℕ
the_half_up n d = (2 * n + d) / (2 * d)

-- "the nearest whole millimetre, halves away from zero, exactly for the float obtained": the magnitude m · 2 ^ e is the fraction m · up e / down e of whole
-- numbers. There is none for a NaN or an infinity, and no height is one
unfoldable pub nearest_whole : Float → ℤ
nearest_whole nan = pos 0
nearest_whole (inf s) = pos 0
nearest_whole (fin s m e) = signed s (the_half_up (m * up e) (down e))

-- what is answered where nothing is refused
abbrev pub tide_of : TideRule → Reading → Reading → Height
tide_of t x y = let h = height_of t x y in record { height = h; millimetres = nearest_whole h; rule = t }

-- "The operation is handed a zone's rule and both readings"
unfoldable pub tide : TideRule → Reading → Reading → Answer Height
tide t x y = answer (tide_of t x y) (tide_refusal t x y)
