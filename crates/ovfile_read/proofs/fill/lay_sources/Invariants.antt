-- `ovfile_read::fill::lay_sources` meets its contract. Assumes nothing.
use Rattle.seq.specs.Seq.{List, ℕ, table}
use Rattle.paper.specs.Limits.{maps}
use Rattle.paper.specs.Reader.{counts_in, stored_source}
use Rattle.paper.specs.Ovfile.{Layout}
use Rattle.ovfile.specs.Values.{layout_from}
use Rattle.seq.specs.Loops.Storing.{Laying}
use Rattle.ovfile_read.proofs.fill.lay_sources.Given as goal

abbrev pub row : Layout → List ℕ → ℕ → List ℕ
row l s k = table (stored_source l s k) maps

abbrev pub invariant-loop-k : goal.invariant-loop-k
invariant-loop-k l = Laying maps (row (layout_from l.stored.layout) l.stored.file.now) (counts_in l.stored.file.now).edges l.initial.sources l.sources l.k
