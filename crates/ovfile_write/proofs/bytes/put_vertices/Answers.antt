-- `ovfile_write::bytes::put_vertices` meets its contract. Assumes nothing.
use mathlib.Core.Path.{ap, ◌∙◌}
use Rattle.seq.specs.Seq.{[], ℕ, sets}
use Rattle.tables.specs.Values.{tables_by}
use Rattle.seq.specs.Loops.Storing.{store_starts, store_turns, store_ends}
use Rattle.ovfile_write.proofs.PutLaws.{vertex_long}
use native.Mathlib.Omega.{arith}
use Rattle.ovfile_write.proofs.bytes.put_vertices.Goals as goal
use Rattle.ovfile_write.proofs.bytes.put_vertices.Invariants.{bytes}

pub put_vertex-requires : goal.put_vertex-requires
put_vertex-requires c =
    (c.requires.0.at c.loop-v.v c.loop-v-test.true, omega (arith, c.vertex_place.ensures, c.loop-v.invariant.room, c.loop-v.invariant.kept, c.loop-v-test.true))

pub loop-v-preserved : goal.loop-v-preserved
loop-v-preserved c =
    let vs = c.args.vertices.now in
    store_turns c.loop-v.invariant (vertex_long (tables_by vs [] [] [])) c.loop-v-test.true
    (c.put_vertex.ensures ∙ ap (λ (p : ℕ). sets c.loop-v.buffer p (bytes vs c.loop-v.v)) c.vertex_place.ensures)

pub loop-v-init : goal.loop-v-init
loop-v-init c = store_starts c.requires.1

pub shape_of-buffer : goal.shape_of-buffer
shape_of-buffer c = c.loop-v.invariant.kept

pub returns : goal.returns
returns c = store_ends c.loop-v.invariant c.loop-v-test.false
