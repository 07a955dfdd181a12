-- `overlay_sweep::queue::corner_in` meets its contract: full, or put at its place. Assumes nothing.
use native.Mathlib.Omega.{arith}
use borrow.Author.Rules.{rules}
use Rattle.plane.specs.Values.{pt_of}
use Rattle.seq.specs.Halves.{halve_starts}
use Rattle.overlay_cut.specs.Rooms.{vertex_rows}
use Rattle.overlay_sweep.specs.Queue.{queue_full}
use Rattle.overlay_sweep.proofs.queue.corner_in.Goals as goal
use Rattle.overlay_sweep.proofs.queue.corner_in.Goals.{After-place_in-a, After-put_at, Else-n-ge-VERTEX_ROWS, Start}

pub returns-then-n-ge-VERTEX_ROWS : goal.returns-then-n-ge-VERTEX_ROWS
returns-then-n-ge-VERTEX_ROWS c =
    let a = c.args in
    queue_full vertex_rows a.points.now a.n (pt_of a.p) (search rules)

pub place_in-a-requires : goal.place_in-a-requires
place_in-a-requires c = record { fact_1 = c.requires.fact_1; fact_2 = c.requires.fact_2; fact_3 = c.requires.fact_3; fact_4 = halve_starts _ _ }

pub put_at-requires : goal.put_at-requires
put_at-requires c =
    record { fact_1 = (c.requires.fact_1, omega (arith, c.if-n-ge-VERTEX_ROWS.false), c.requires.fact_4); fact_2 = c.requires.fact_2; fact_3 = c.place_in-a.ensures }

pub returns : goal.returns
returns c = c.put_at.ensures
