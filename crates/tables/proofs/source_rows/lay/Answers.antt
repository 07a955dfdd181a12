-- `tables::source_rows::lay` meets its contract: before turn k the first k rows are stored. Assumes nothing.
use mathlib.Core.Path.{refl}
use native.Mathlib.Omega.{arith}
use Rattle.seq.specs.Loops.Storing.{lay_turns, lay_ends}
use Rattle.tables.proofs.source_rows.lay.Goals as goal
use Rattle.tables.proofs.source_rows.lay.Goals.{At-loop-k, Start}

pub loop-k-preserved : goal.loop-k-preserved
loop-k-preserved c =
    lay_turns c.loop-k.invariant (λ k. refl) (omega arith) c.store.ensures refl

pub returns : goal.returns
returns c = lay_ends c.loop-k.invariant (λ k. refl) (omega arith)
