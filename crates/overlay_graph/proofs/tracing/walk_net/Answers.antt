-- `overlay_graph::tracing::walk_net` meets its contract. Assumes nothing.
use native.Mathlib.Omega.{arith}
use Rattle.overlay_graph.proofs.tracing.walk_net.Goals as goal

pub walk_in-requires : goal.walk_in-requires
walk_in-requires c =
    let p = c.requires in
    record { fact_1 = p.fact_1; fact_2 = p.fact_2; fact_3 = p.fact_3; fact_4 = p.fact_4; fact_5 = (omega (arith, c.if-cut-le-SMALL_EDGES.true), omega arith) }

pub walk_in-requires-else-cut-le-SMALL_EDGES : goal.walk_in-requires-else-cut-le-SMALL_EDGES
walk_in-requires-else-cut-le-SMALL_EDGES c =
    let p = c.requires in
    record { fact_1 = p.fact_1; fact_2 = p.fact_2; fact_3 = p.fact_3; fact_4 = p.fact_4; fact_5 = (omega (arith, p.fact_2.1), omega arith) }
