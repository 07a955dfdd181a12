-- `tables::vertex_rows::lay` meets its contract: before turn v the first v rows are stored. Assumes nothing.
use Rattle.seq.specs.Loops.Storing.{Laying}
use Rattle.tables.specs.Rows.{vertex_of}
use Rattle.tables.proofs.vertex_rows.lay.Given as goal

abbrev pub invariant-loop-v : goal.invariant-loop-v
invariant-loop-v l = Laying 4 (vertex_of l.points l.least) l.n l.initial.vertices l.vertices l.v
