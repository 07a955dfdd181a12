-- `ovfile_write::edges::first_bad_edge_by` meets its contract: nothing below the counter has been found. Assumes nothing.
use Rattle.seq.specs.Seq.{Bool, List, ℕ}
use Rattle.paper.specs.Limits.{maps}
use Rattle.paper.specs.Writer.{bad_edge}
use Rattle.tables.specs.Values.{counts_of}
use Rattle.tables.specs.declared.room.Counts.{Counts}
use Rattle.ovfile.specs.Values.{edge_tables}
use Rattle.seq.specs.Loops.Searching.{Searching}
use Rattle.ovfile_write.proofs.edges.first_bad_edge_by.Given as goal

abbrev pub bad : Counts → List ℕ → List ℕ → ℕ → Bool
bad c hs ss = bad_edge maps (counts_of c) (edge_tables hs ss)

abbrev pub invariant-loop-k : goal.invariant-loop-k
invariant-loop-k l = Searching (bad l.c l.halves l.sources) l.n l.k
