-- `ovfile_write::bytes::put_edges` meets its contract. Assumes nothing.
use mathlib.Core.Path.{ap, ◌∙◌}
use Rattle.seq.specs.Seq.{ℕ, sets, rows}
use Rattle.ovfile.specs.Values.{edge_tables}
use Rattle.seq.specs.Loops.Storing.{store_starts, store_turns, store_ends}
use Rattle.ovfile_write.proofs.PutLaws.{edge_bytes, edge_long}
use native.Mathlib.Omega.{arith}
use Rattle.ovfile_write.proofs.bytes.put_edges.Goals as goal

pub loop-k-init : goal.loop-k-init
loop-k-init c =
    store_starts (omega (arith, c.edges_at-start.ensures, c.requires))

pub put_edge-requires : goal.put_edge-requires
put_edge-requires c = omega (arith, c.loop-k.invariant.room, c.loop-k.invariant.kept, c.loop-k-test.true)

pub loop-k-preserved : goal.loop-k-preserved
loop-k-preserved c =
    let a = c.args in
    let t = edge_tables a.halves.now a.sources.now in
    store_turns c.loop-k.invariant (edge_long t) c.loop-k-test.true c.put_edge.ensures

pub returns : goal.returns
returns c =
    let a = c.args in
    let t = edge_tables a.halves.now a.sources.now in
    store_ends c.loop-k.invariant c.loop-k-test.false
    ∙ ap (λ (p : ℕ). sets a.buffer.now p (rows (edge_bytes t) a.c.edges)) c.edges_at-start.ensures

pub shape_of-buffer : goal.shape_of-buffer
shape_of-buffer c = c.loop-k.invariant.kept
