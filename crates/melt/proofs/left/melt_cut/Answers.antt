-- `melt::left::melt_cut` meets its contract: the tables have room, small ones where the sheet is small. Assumes nothing.
use native.Mathlib.Omega.{arith}
use Prim.Native.Nat.{◌≤◌}
use Rattle.graph.specs.Small.{small_vertices, small_edges}
use Rattle.melt.proofs.left.melt_cut.Goals as goal

pub melt_cut_in-requires : goal.melt_cut_in-requires
melt_cut_in-requires c =
    let p = c.requires in
    let few : c.args.cut.vertices ≤ small_vertices = omega arith in
    let short : c.args.cut.edges ≤ small_edges = omega arith in
    record {
      ready = p.ready;
      cut_of = p.cut_of;
      rooms = (omega (arith, short), omega (arith, short), omega (arith, short), λ count h r. omega (arith, h), omega (arith, few), omega (arith, short), omega arith);
    }

pub melt_cut_in-requires-else-cut-le-SMALL_VERTICES : goal.melt_cut_in-requires-else-cut-le-SMALL_VERTICES
melt_cut_in-requires-else-cut-le-SMALL_VERTICES c =
    let p = c.requires in
    let few = p.ready.drawable.few_vertices in
    let short = p.ready.drawable.few_edges in
    record {
      ready = p.ready;
      cut_of = p.cut_of;
      rooms = (omega (arith, short), omega (arith, short), omega (arith, short), λ count h r. omega (arith, r), omega (arith, few), omega (arith, short), omega arith);
    }
