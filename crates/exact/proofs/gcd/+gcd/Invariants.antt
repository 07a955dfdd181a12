-- One remainder, and then by halving: a remainder is less than its divisor, and its half no more.
use Rattle.exact.proofs.gcd.+gcd.Given as goal

abbrev pub decreases-gcd : goal.decreases-gcd
decreases-gcd l = l.b
