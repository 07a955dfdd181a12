-- `ovfile_write::bytes::put_vertices` meets its contract. Assumes nothing.
use Rattle.seq.specs.Seq.{[], List, ℕ, ℤ}
use Rattle.paper.specs.Limits.{overlay_head}
use Rattle.paper.specs.Ovfile.{vertex_size, vertex_bytes}
use Rattle.tables.specs.Values.{tables_by}
use Rattle.ovfile.specs.Values.{layout}
use Rattle.seq.specs.Loops.Storing.{Storing}
use Rattle.ovfile_write.proofs.bytes.put_vertices.Given as goal

abbrev pub bytes : List ℤ → ℕ → List ℕ
bytes vs = vertex_bytes layout (tables_by vs [] [] [])

abbrev pub invariant-loop-v : goal.invariant-loop-v
invariant-loop-v l = Storing (vertex_size layout) (bytes l.vertices) overlay_head l.n l.initial.buffer l.buffer l.v
