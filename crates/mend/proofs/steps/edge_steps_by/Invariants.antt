-- `mend::steps::edge_steps_by` meets its contract: below the counter the cells are their steps, and the other cells as they were. Assumes nothing.
use Rattle.std.specs.Prelude.{◌-◌}
use native.Mathlib.Omega.{arith}
use borrow.Author.Rules.{rules}
use Rattle.seq.specs.Loops.Filling.{Filling, fill_starts, fill_turns, fill_ends}
use Rattle.seq.specs.Seq.{the_some_below}
use Rattle.mend.specs.Keys.{like_in}
use Rattle.mend.specs.Steps.{shrunk_in, edge_step}
use Rattle.mend.proofs.steps.edge_steps_by.Given as goal

abbrev pub invariant-loop-k : goal.invariant-loop-k
invariant-loop-k l = Filling (λ j. edge_step (shrunk_in l.ends j) (the_some_below (like_in l.keys j) j)) l.e l.initial.steps l.steps l.k
