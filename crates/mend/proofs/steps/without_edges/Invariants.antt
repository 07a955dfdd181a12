-- `mend::steps::without_edges` meets its contract: below the counter the cells are their steps, and the other cells as they were. Assumes nothing.
use Rattle.std.specs.Prelude.{◌-◌}
use native.Mathlib.Omega.{arith}
use borrow.Author.Rules.{rules}
use Rattle.seq.specs.Loops.Filling.{Filling, fill_starts, fill_turns, fill_ends}
use Rattle.seq.specs.Seq.{cond}
use Rattle.mend.specs.Steps.{merged_in}
use Rattle.mend.proofs.steps.without_edges.Given as goal

abbrev pub invariant-loop-v : goal.invariant-loop-v
invariant-loop-v l = Filling (λ u. cond (merged_in l.into u) 1 4) l.n l.initial.steps l.steps l.v
