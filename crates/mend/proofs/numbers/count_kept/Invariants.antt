-- `mend::numbers::count_kept` meets its contract: before a turn what is counted stands below the counter. Assumes nothing.
use Rattle.std.specs.Prelude.{◌-◌}
use mathlib.Core.Path.{sym, ◌∙◌}
use mathlib.Core.Logic.{⊎_elim}
use native.Mathlib.Omega.{arith}
use borrow.Author.Rules.{rules}
use Rattle.seq.specs.Loops.Selecting.{Counting, count_starts, count_most, count-takes, count-skips, count_ends}
use Rattle.mend.specs.Steps.{step_is}
use Rattle.mend.proofs.numbers.count_kept.Given as goal

abbrev pub invariant-loop-k : goal.invariant-loop-k
invariant-loop-k l = Counting (step_is l.steps 0) l.e l.c l.k
