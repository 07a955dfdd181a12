-- What the loop has left has the same divisors, and the sum of the two falls.
use Rattle.std.proofs.Common.{◌+◌}
use Rattle.exact.specs.Odd.{Halving}
use Rattle.exact.proofs.gcd.odd_gcd.Given as goal

abbrev pub invariant-loop-y : goal.invariant-loop-y
invariant-loop-y l = Halving l.a l.b l.x l.y

abbrev pub decreases-loop-y : goal.decreases-loop-y
decreases-loop-y l = l.x + l.y
