-- `tables::source_rows::lay` meets its contract: before turn k the first k rows are stored. Assumes nothing.
use Rattle.seq.specs.Loops.Storing.{Laying}
use Rattle.paper.specs.Limits.{maps}
use Rattle.tables.specs.Rows.{source_of}
use Rattle.tables.proofs.source_rows.lay.Given as goal

abbrev pub invariant-loop-k : goal.invariant-loop-k
invariant-loop-k l = Laying maps (source_of l.pieces) l.n l.initial.sources l.sources l.k
