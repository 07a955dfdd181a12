-- What the loop has left has the same divisors.
use Rattle.std.proofs.Common.{refl, sym, ap, ◌∙◌, ◌<◌, arith, rules}
use Rattle.exact.specs.Gcd.{gcd_of, gcd_zero}
use Rattle.exact.specs.Odd.{odd_part, trailing_less, halving_less, halving_more, halving_falls}
use lib.Count.{trailing_le}
use Rattle.exact.proofs.gcd.odd_gcd.Goals as goal

pub loop-y-init : goal.loop-y-init
loop-y-init c = record { odd = c.requires; less = c.ranges.a.fits; small = c.ranges.b.fits; is = refl }

pub overflow_cast-z : goal.overflow_cast-z
overflow_cast-z c = record { fits = omega (arith, trailing_le 64 c.loop-y.y) }

pub overflow_shr-z : goal.overflow_shr-z
overflow_shr-z c = trailing_less 64 c.loop-y.y (search rules) c.loop-y.invariant.small

pub loop-y-smaller-then-z-x : goal.loop-y-smaller-then-z-x
loop-y-smaller-then-z-x c = let l = c.loop-y in let h : odd_part 64 l.y < l.x = search rules in let n : 0 < l.y = search rules in omega arith

pub loop-y-preserved-then-z-x : goal.loop-y-preserved-then-z-x
loop-y-preserved-then-z-x c = halving_less c.loop-y.invariant (search rules) (search rules)

pub loop-y-smaller : goal.loop-y-smaller
loop-y-smaller c = let l = c.loop-y in omega (arith, halving_falls l.invariant (search rules) (search rules))

pub loop-y-preserved : goal.loop-y-preserved
loop-y-preserved c = halving_more c.loop-y.invariant (search rules) (search rules)

pub returns : goal.returns
returns c = sym (ap (gcd_of c.loop-y.x) c.loop-y-test.false ∙ gcd_zero c.loop-y.x) ∙ c.loop-y.invariant.is
