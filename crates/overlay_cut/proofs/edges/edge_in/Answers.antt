-- `overlay_cut::edges::edge_in` meets its contract. Assumes nothing.
use mathlib.Core.Path.{◌∙◌}
use Prim.Native.Nat.{◌+◌, ◌<◌}
use Rattle.overlay_cut.specs.Cuts.{start_of, edges_from, part-carried}
use Rattle.overlay_cut.specs.Laws.NetLaws.{edge-there, edge-absent}
use native.Mathlib.Omega.{arith}
use Rattle.overlay_cut.proofs.edges.edge_in.Goals as goal
use Rattle.overlay_cut.proofs.edges.edge_in.Goals.{Start}

pub overflow_add-row : goal.overflow_add-row
overflow_add-row c = omega (arith, (part-carried c.requires.fact_1 c.args.m c.requires.fact_2).long)

pub carrier_at-requires : goal.carrier_at-requires
carrier_at-requires c =
    let r = part-carried c.requires.fact_1 c.args.m c.requires.fact_2 in
    let l : start_of c.args.starts.now c.args.m + c.args.j < start_of c.args.starts.now c.args.m + edges_from c.args.starts.now c.args.m = omega arith in
    record { row = omega (arith, r.long); near = r.near (start_of c.args.starts.now c.args.m + c.args.j) l }

pub returns-then-row-starts : goal.returns-then-row-starts
returns-then-row-starts c =
    let a = c.args in
    record { is = c.carrier_at.ensures.is ∙ edge-there a.carriers.now a.starts.now a.m a.j (omega arith); near = c.carrier_at.ensures.near }

pub returns-else-row-starts : goal.returns-else-row-starts
returns-else-row-starts c =
    let a = c.args in
    record { is = c.nothing.ensures.is ∙ edge-absent a.carriers.now a.starts.now a.m a.j (omega arith); near = c.nothing.ensures.near }
