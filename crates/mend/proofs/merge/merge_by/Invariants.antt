-- `mend::merge::merge_by` meets its contract: below the counter the cells are the lowest vertices, and the other cells as they were. Assumes nothing.
use Rattle.std.specs.Prelude.{◌-◌}
use native.Mathlib.Omega.{arith}
use borrow.Author.Rules.{rules}
use Rattle.seq.specs.Loops.Filling.{Filling, fill_starts, fill_turns, fill_ends}
use Rattle.seq.specs.Seq.{least}
use Rattle.mend.specs.Keys.{like_in}
use Rattle.mend.proofs.merge.merge_by.Given as goal

abbrev pub invariant-loop-v : goal.invariant-loop-v
invariant-loop-v l = Filling (λ u. least (like_in l.keys u) u) l.n l.initial.into l.into l.v
