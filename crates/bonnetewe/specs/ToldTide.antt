-- The height of tide for C: the rule and the readings as they are handed in, and the answer as one number and one float; that the number tells whether it is done (`done-apart`), and which
-- millimetres (`millimetres-told`). The rule used is the one handed in, so it is not handed back. Assumes nothing.
use Rattle.std.specs.Prelude.{◌≡◌, Float, ◌<◌, ◌+◌, ◌*◌}
use Rattle.std.proofs.Common.{sym, ap, ◌∙◌, arith}
use Rattle.std.specs.Float.{fin}
use Rattle.exact.specs.Tests.{eq_z}
use Rattle.seq.specs.Seq.{false, cond, ℕ, eqb, ℤ, pos, negsuc, nat_abs}
use Rattle.paper.specs.Refusal.{Answer, done, refused, Refusal}
use Rattle.paper.specs.Tide.{TideRule, unset, ratio, weights, Reading, missing, at, Height}
use Rattle.bonnetewe.specs.Told.{four}

-- the rule by its kind: 0 none, 1 a ratio, any other a pair of weights
abbrev pub rule_by : ℕ → Float → Float → TideRule
rule_by kind a b = cond (eqb kind 0) unset (cond (eqb kind 1) (ratio a) (weights a b))

-- a reading; the least number of 32 bits stands for a missing one
abbrev pub reading_by : ℤ → Reading
reading_by z = cond (eq_z z (negsuc 2147483647)) missing (at z)

-- 1 of a number below 0, otherwise 0
abbrev pub minus : ℤ → ℕ
minus (pos n) = 0
minus (negsuc n) = 1

-- the sign and the magnitude of the millimetres, above a 0
abbrev pub told_millimetres : ℤ → ℕ
told_millimetres z = 65536 * (minus z + 65536 * nat_abs z)

-- 0, and the millimetres above it; or a refusal's number (never 0), map, place and other edge
abbrev pub told_tide : Answer Height → ℕ
told_tide (done h) = told_millimetres h.millimetres
told_tide (refused r) = four r.number r.map r.place r.other

-- the height before rounding, or 0 where it is refused
abbrev pub told_height : Answer Height → Float
told_height (done h) = h.height
told_height (refused r) = fin false 0 (pos 0)

-- no second float tells a height
pub told-height-once : {x a b : Float} → a ≡ x → b ≡ x → a ≡ b
told-height-once p q = p ∙ sym q

-- ── the number tells whether it is done, and the millimetres ──

pub done-apart : (h : Height) (r : Refusal) → 0 < r.number → r.number < 65536 → told_tide (done h) ≡ told_tide (refused r) → ⊥
done-apart h r o n e = omega (arith, o, n, e)

pub millimetres-told : (y z : ℤ) → told_millimetres y ≡ told_millimetres z → y ≡ z
millimetres-told (pos m) (pos n) e = ap pos (omega (arith, e))
millimetres-told (pos m) (negsuc n) e = absurd (omega (arith, e))
millimetres-told (negsuc m) (pos n) e = absurd (omega (arith, e))
millimetres-told (negsuc m) (negsuc n) e = ap negsuc (omega (arith, e))
