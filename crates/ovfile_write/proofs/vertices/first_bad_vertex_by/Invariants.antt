-- `ovfile_write::vertices::first_bad_vertex_by` meets its contract: nothing below the counter has been found. Assumes nothing.
use Rattle.seq.specs.Loops.Searching.{Searching}
use Rattle.ovfile_write.specs.Judged.{bad_vertex_by}
use Rattle.ovfile_write.proofs.vertices.first_bad_vertex_by.Given as goal

abbrev pub invariant-loop-v : goal.invariant-loop-v
invariant-loop-v l = Searching (bad_vertex_by l.vertices l.starts) l.n l.v
