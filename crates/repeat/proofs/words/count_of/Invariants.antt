-- `repeat::words::count_of`: the number stays within the most that is taken. Assumes nothing.
use Rattle.std.proofs.Common.{◌≤◌}
use Rattle.repeat.proofs.words.count_of.Given as goal

abbrev pub invariant-loop-digit : goal.invariant-loop-digit
invariant-loop-digit l = l.n ≤ 1000000
