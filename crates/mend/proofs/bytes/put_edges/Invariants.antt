-- `mend::bytes::put_edges` meets its contract: what is stored are the rows of those below the counter that are kept. Assumes nothing.
use Rattle.std.specs.Prelude.{◌-◌}
use mathlib.Core.Path.{refl, sym, ◌∙◌}
use mathlib.Core.Logic.{⊎_elim}
use native.Mathlib.Omega.{arith}
use borrow.Author.Rules.{rules}
use Rattle.seq.specs.Count.{count_below}
use Rattle.seq.specs.Seq.{gather}
use Rattle.paper.specs.Bytes.{le}
use Rattle.mend.specs.Steps.{step_is}
use Rattle.mend.specs.Stored.{row_in}
use Rattle.mend.proofs.AppendLaws.{Appending, append_starts, append_takes, append_leaves, append_ends}
use Rattle.mend.proofs.bytes.put_edges.Given as goal

abbrev pub invariant-loop-k : goal.invariant-loop-k
invariant-loop-k l = Appending 8 (step_is l.t.pieces.now 0) (λ j. gather (le 2) (row_in l.t.labels.now l.t.ends.now l.t.numbers.now j)) l.start l.t.e l.initial.out l.out l.at l.k
