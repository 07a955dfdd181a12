-- `ovfile_write::bytes::put_edges` meets its contract. Assumes nothing.
use Rattle.paper.specs.Ovfile.{edge_size}
use Rattle.ovfile.specs.Values.{edge_tables, layout}
use Rattle.seq.specs.Loops.Storing.{Storing}
use Rattle.ovfile_write.proofs.PutLaws.{edge_bytes}
use Rattle.ovfile_write.proofs.bytes.put_edges.Given as goal

abbrev pub invariant-loop-k : goal.invariant-loop-k
invariant-loop-k l = Storing (edge_size layout) (edge_bytes (edge_tables l.halves l.sources)) l.start l.n l.initial.buffer l.buffer l.k
