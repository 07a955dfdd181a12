-- `overlay_cut::cuts::pieces` meets its contract: the tables have room, small ones where these are enough. Assumes nothing.
use mathlib.Core.Path.{sym, ◌∙◌}
use Prim.Native.Nat.{◌+◌}
use borrow.Author.Tests.{leb-true}
use Rattle.exact.specs.Tests.{and_parts}
use Rattle.graph.specs.Small.{small_vertices, small_edges}
use Rattle.overlay_cut.specs.Rooms.{vertex_rows, edge_rows}
use Rattle.overlay_cut.specs.Laws.LinkedRows.{linked-clear}
use Rattle.overlay_cut.proofs.cuts.pieces.Goals as goal
use Rattle.overlay_cut.proofs.cuts.pieces.Goals.{After-few, Start, Then-few}

pub pieces_in-requires : goal.pieces_in-requires
pieces_in-requires c =
    let p = c.requires in
    let a = c.args in
    let small = and_parts _ _ (sym c.few.ensures ∙ c.if-few.true) in
    record {
      ended = p.fact_2.1;
      fact_1 = p.fact_3;
      fact_2 = linked-clear (small_edges + 1) small_vertices p.fact_1.1 p.fact_4 (leb-true a.n small_vertices small.0) (leb-true a.room (small_edges + 1) small.1);
      fact_3 = p.fact_5;
    }

pub pieces_in-requires-else-few : goal.pieces_in-requires-else-few
pieces_in-requires-else-few c =
    let p = c.requires in
    record { ended = p.fact_2.1; fact_1 = p.fact_3; fact_2 = linked-clear edge_rows vertex_rows p.fact_1.1 p.fact_4 p.fact_1.1 p.fact_4; fact_3 = p.fact_5 }
