-- `mend::numbers::number` meets its contract: before a turn the cells below the counter are the counts. Assumes nothing.
use Rattle.std.specs.Prelude.{◌-◌}
use mathlib.Core.Path.{sym, ◌∙◌}
use mathlib.Core.Logic.{⊎_elim}
use native.Mathlib.Omega.{arith}
use borrow.Author.Rules.{rules}
use Rattle.seq.specs.Loops.Filling.{Filling, fill_starts, fill_turns, fill_ends}
use Rattle.seq.specs.Loops.Selecting.{Counting, count_starts, count_most, count-takes, count-skips, count_ends}
use Rattle.seq.specs.Seq.{count}
use Rattle.mend.specs.Steps.{step_is}
use Rattle.mend.proofs.numbers.number.Given as goal

abbrev pub invariant-loop-v : goal.invariant-loop-v
invariant-loop-v l = Filling (count (step_is l.steps 0)) l.n l.initial.out l.out l.v × Counting (step_is l.steps 0) l.n l.c l.v
