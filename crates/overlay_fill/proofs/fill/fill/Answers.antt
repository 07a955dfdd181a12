-- `overlay_fill::fill::fill` meets its contract: the tables have room, small ones where the sheet is small. Assumes nothing.
use native.Mathlib.Omega.{arith}
use Rattle.overlay_fill.proofs.fill.fill.Goals as goal

pub fill_in-requires : goal.fill_in-requires
fill_in-requires c =
    let p = c.requires in
    record { ready = p.ready; traced = p.traced; rooms = (p.rooms, omega arith, omega arith, omega arith, omega arith, omega arith) }

pub fill_in-requires-else-cut-le-SMALL_VERTICES : goal.fill_in-requires-else-cut-le-SMALL_VERTICES
fill_in-requires-else-cut-le-SMALL_VERTICES c =
    let p = c.requires in
    let D = p.ready.drawable in
    let r = p.rooms in
    record { ready = p.ready; traced = p.traced; rooms = (r, omega (arith, D.few_edges), omega (arith, D.few_vertices), omega (arith, r), omega (arith, r), omega arith) }
