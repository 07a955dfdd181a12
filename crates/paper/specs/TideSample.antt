-- Worked examples of the height of tide (02, Ask 5), computed: halves; the ends of the ranges; refusals in their order; each operation rounded once. Assumes nothing.
use Rattle.std.specs.Prelude.{◌≡◌, refl, Float}
use Rattle.std.specs.Float.{nan, inf, fin, binary64}
use Rattle.std.specs.Float.Ieee.{le, mul, add, of_int, of_bits}
use Rattle.seq.specs.Seq.{ℕ, pos, negsuc, ℤ, true, false}
use Rattle.paper.specs.Refusal.{Answer, done, given, answer}
use Rattle.paper.specs.Tide.{TideRule, unset, ratio, weights, missing, at, Height, nearest_whole, tide_of, tide}

-- the float with these bits
abbrev bits : ℕ → Float
bits = of_bits binary64

-- a height by a rule
abbrev gives : TideRule → Float → ℤ → Answer Height
gives t h n = done (record { height = h; millimetres = n; rule = t })

-- refusal n with map 0 and place 0, whatever would be answered otherwise
abbrev no : ℕ → Answer Height
no n = answer (tide_of unset missing missing) (given n 0 true)

-- ── halves, away from zero ──

-- 1, -1 and 5 times 0.5
half : Float
half = fin false 1 (negsuc 0)

half_up : tide (ratio half) (at (pos 1)) missing ≡ gives (ratio half) half (pos 1)
unfolding tide half le mul of_int nearest_whole
half_up = refl

half_down : tide (ratio half) (at (negsuc 0)) missing ≡ gives (ratio half) (fin true 1 (negsuc 0)) (negsuc 0)
unfolding tide half le mul of_int nearest_whole
half_down = refl

two_and_a_half : tide (ratio half) (at (pos 5)) missing ≡ gives (ratio half) (fin false 5 (negsuc 0)) (pos 3)
unfolding tide half le mul of_int nearest_whole
two_and_a_half = refl

-- ── the ends ──

one : Float
one = fin false 1 (pos 0)

four : Float
four = fin false 1 (pos 2)

largest : tide (ratio four) (at (negsuc 19999)) missing ≡ gives (ratio four) (of_int binary64 (negsuc 79999)) (negsuc 79999)
unfolding tide four le mul of_int nearest_whole
largest = refl

-- weights of -0 and 0, and negative readings; with two weights of 0 the height is -0, and that is 0 millimetres
minus-zero-weight : tide (weights (fin true 0 (pos 0)) (fin false 0 (pos 0))) (at (negsuc 2)) (at (negsuc 3)) ≡ gives (weights (fin true 0 (pos 0)) (fin false 0 (pos 0))) (fin false 0 (pos 0)) (pos 0)
unfolding tide le mul add of_int nearest_whole
minus-zero-weight = refl

minus-zero-height : tide (weights (fin false 0 (pos 0)) (fin false 0 (pos 0))) (at (negsuc 2)) (at (negsuc 3)) ≡ gives (weights (fin false 0 (pos 0)) (fin false 0 (pos 0))) (fin true 0 (pos 0)) (pos 0)
unfolding tide le mul add of_int nearest_whole
minus-zero-height = refl

-- ── refusals in their order ──

fourteen : tide unset missing missing ≡ no 14
unfolding tide
fourteen = refl

fifteen : tide (ratio nan) missing missing ≡ no 15
unfolding tide le
fifteen = refl

fifteen_above : tide (ratio (bits 0x4010_0000_0000_0001)) (at (pos 1)) missing ≡ no 15
unfolding tide le of_bits
fifteen_above = refl

fifteen-infinite : tide (weights one (inf false)) (at (pos 1)) (at (pos 1)) ≡ no 15
unfolding tide one le
fifteen-infinite = refl

sixteen : tide (weights one (fin false 0 (pos 0))) (at (pos 5)) missing ≡ no 16
unfolding tide one le
sixteen = refl

sixteen-beyond : tide (ratio one) (at (pos 20001)) missing ≡ no 16
unfolding tide one le
sixteen-beyond = refl

-- the second reading is not looked at
unused : tide (ratio one) (at (pos 7)) (at (pos 20001)) ≡ gives (ratio one) (fin false 7 (pos 0)) (pos 7)
unfolding tide one le mul of_int nearest_whole
unused = refl

-- ── "each operation rounded once in that order" ──

-- 0.96 times -3 plus 0.86 times -67, of which the floats differ a little from the decimals: the rounded products add up to -60.5, and so to -61 millimetres;
-- the exact sum of the exact products lies nearer to -60
hundredths : TideRule
hundredths = weights (bits 0x3fee_b851_eb85_1eb8) (bits 0x3feb_851e_b851_eb85)

rounded_each : tide hundredths (at (negsuc 2)) (at (negsuc 66)) ≡ gives hundredths (fin true 121 (negsuc 0)) (negsuc 60)
unfolding tide hundredths le mul add of_int of_bits nearest_whole
rounded_each = refl
