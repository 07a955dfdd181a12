-- `mend::steps::keep_all_ends` meets its contract: the ends of the edges below the counter that are kept are 0. Assumes nothing.
use Rattle.std.specs.Prelude.{◌+◌, ◌*◌, ◌-◌}
use mathlib.Core.Path.{sym, ◌∙◌}
use mathlib.Core.Logic.{⊎_elim}
use borrow.Author.Rules.{rules}
use native.Mathlib.Omega.{arith}
use Rattle.seq.specs.Seq.{get_or}
use Rattle.mend.specs.Steps.{step_is}
use Rattle.mend.proofs.MarkLaws.{Marking, mark_starts, mark-takes, mark-skips, mark_ends}
use Rattle.mend.proofs.steps.keep_all_ends.Given as goal

abbrev pub invariant-loop-k : goal.invariant-loop-k
invariant-loop-k l = Marking (step_is l.dropped 0) (λ j. get_or l.ends (2 * j) 0) (λ j. get_or l.ends (2 * j + 1) 0) l.e l.initial.steps l.steps l.k
