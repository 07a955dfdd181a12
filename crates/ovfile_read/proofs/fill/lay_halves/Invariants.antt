-- `ovfile_read::fill::lay_halves` meets its contract. Assumes nothing.
use Rattle.std.specs.Prelude.{◌*◌}
use Rattle.seq.specs.Seq.{List, ℕ}
use Rattle.paper.specs.Reader.{counts_in, half_read}
use Rattle.paper.specs.Ovfile.{Layout}
use Rattle.ovfile.specs.Values.{layout_from}
use Rattle.ovfile_read.specs.Filled.{followers_in}
use Rattle.seq.specs.Loops.Storing.{Laying}
use Rattle.ovfile_read.proofs.fill.lay_halves.Given as goal

abbrev pub row : Layout → List ℕ → ℕ → List ℕ
row l s = half_read l s (followers_in l s)

abbrev pub invariant-loop-h : goal.invariant-loop-h
invariant-loop-h l = Laying 5 (row (layout_from l.stored.layout) l.stored.file.now) (2 * (counts_in l.stored.file.now).edges) l.initial.halves l.halves l.h
