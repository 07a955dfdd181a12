-- `ovfile_read::fill::first_stored` meets its contract. Assumes nothing.
use Rattle.ovfile.specs.Values.{layout_from}
use Rattle.ovfile_read.specs.Filled.{stored_field}
use Rattle.seq.specs.Loops.Placing.{Placing}
use Rattle.ovfile_read.proofs.fill.first_stored.Given as goal

abbrev pub invariant-loop-h : goal.invariant-loop-h
invariant-loop-h l = Placing (stored_field (layout_from l.stored.layout) l.stored.file.now l.j) l.n l.initial.out l.out l.h
