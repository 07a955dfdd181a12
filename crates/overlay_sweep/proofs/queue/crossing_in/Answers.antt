-- `overlay_sweep::queue::crossing_in` meets its contract: full, or put at its place. Assumes nothing.
use native.Mathlib.Omega.{arith}
use borrow.Author.Rules.{rules}
use Rattle.plane.specs.Values.{pt_of}
use Rattle.overlay_cut.specs.Rooms.{vertex_rows}
use Rattle.overlay_sweep.specs.Queue.{queue_full}
use Rattle.overlay_sweep.proofs.queue.crossing_in.Goals as goal
use Rattle.overlay_sweep.proofs.queue.crossing_in.Goals.{After-place_near-a, After-put_at, Else-n-ge-VERTEX_ROWS, Start}

pub returns-then-n-ge-VERTEX_ROWS : goal.returns-then-n-ge-VERTEX_ROWS
returns-then-n-ge-VERTEX_ROWS c =
    let a = c.args in
    queue_full vertex_rows a.points.now a.n (pt_of a.p) (search rules)

pub place_near-a-requires : goal.place_near-a-requires
place_near-a-requires c = record { fact_1 = (c.requires.fact_1, omega (arith, c.if-n-ge-VERTEX_ROWS.false)); fact_2 = c.requires.fact_2; fact_3 = c.requires.fact_3 }

pub put_at-requires : goal.put_at-requires
put_at-requires c =
    record { fact_1 = (c.requires.fact_1, omega (arith, c.if-n-ge-VERTEX_ROWS.false), c.requires.fact_4); fact_2 = c.requires.fact_2; fact_3 = c.place_near-a.ensures }

pub returns : goal.returns
returns c = c.put_at.ensures
