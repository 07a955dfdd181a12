-- `tables::half_rows::lay` meets its contract: before turn h the first h rows are stored. Assumes nothing.
use Rattle.seq.specs.Loops.Storing.{Laying}
use Rattle.tables.specs.Rows.{half_of}
use Rattle.tables.proofs.half_rows.lay.Given as goal

abbrev pub invariant-loop-h : goal.invariant-loop-h
invariant-loop-h l = Laying 5 (half_of l.origins l.next l.prev l.face) l.m l.initial.halves l.halves l.h
