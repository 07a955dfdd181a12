-- `ovfile_read::fill::lay_vertices` meets its contract. Assumes nothing.
use Rattle.paper.specs.Reader.{counts_in}
use Rattle.ovfile.specs.Values.{layout_from}
use Rattle.ovfile_read.specs.Filled.{vertex_by}
use Rattle.seq.specs.Loops.Storing.{Laying}
use Rattle.ovfile_read.proofs.fill.lay_vertices.Given as goal

abbrev pub invariant-loop-v : goal.invariant-loop-v
invariant-loop-v l = Laying 4 (vertex_by (layout_from l.stored.layout) l.stored.file.now l.least) (counts_in l.stored.file.now).vertices l.initial.vertices l.vertices l.v
