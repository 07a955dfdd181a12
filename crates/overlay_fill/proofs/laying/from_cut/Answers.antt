-- `overlay_fill::laying::from_cut` meets its contract: the tables have room, small ones where the edges are few. Assumes nothing.
use native.Mathlib.Omega.{arith}
use Rattle.overlay_fill.proofs.laying.from_cut.Goals as goal

pub from_cut_in-requires : goal.from_cut_in-requires
from_cut_in-requires c =
    let few = c.if-cut-le-SMALL_EDGES.true in
    record { ready = c.requires; rooms = (omega (arith, few), omega (arith, few), omega (arith, few), omega arith) }

pub from_cut_in-requires-else-cut-le-SMALL_EDGES : goal.from_cut_in-requires-else-cut-le-SMALL_EDGES
from_cut_in-requires-else-cut-le-SMALL_EDGES c =
    let few = c.requires.drawable.few_edges in
    record { ready = c.requires; rooms = (omega (arith, few), omega (arith, few), omega (arith, few), omega arith) }
