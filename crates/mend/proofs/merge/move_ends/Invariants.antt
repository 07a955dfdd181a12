-- `mend::merge::move_ends` meets its contract: below the counter the cells are the ends, and the other cells as they were. Assumes nothing.
use Rattle.std.specs.Prelude.{◌*◌, ◌-◌}
use mathlib.Core.Path.{ap, ◌∙◌}
use native.Mathlib.Omega.{arith}
use borrow.Author.Rules.{rules}
use Rattle.seq.specs.Loops.Filling.{Filling, fill_starts, fill_turns, fill_ends}
use Rattle.seq.specs.Seq.{ℕ, get_or}
use Rattle.mend.specs.Steps.{now_in}
use Rattle.mend.proofs.merge.move_ends.Given as goal

abbrev pub invariant-loop-h : goal.invariant-loop-h
invariant-loop-h l = Filling (now_in l.into l.origins) (2 * l.e) l.initial.ends l.ends l.h
