-- `overlay_sweep::queue::put_at` meets its contract: there already; or a gap at its place, and the row stored in it. Assumes nothing.
use native.Mathlib.Omega.{arith}
use Rattle.plane.specs.Values.{pt_of}
use Rattle.plane.proofs.Machine.{pt_back}
use Rattle.overlay_cut.specs.Rooms.{vertex_rows}
use Rattle.overlay_sweep.specs.Queue.{queue_old, queue_new, stands_yes, stands_no}
use Rattle.overlay_sweep.proofs.queue.put_at.Goals as goal
use Rattle.overlay_sweep.proofs.queue.put_at.Goals.{After-lift, After-stands_at, After-store, Else-stands_at, Start}

pub stands_at-requires : goal.stands_at-requires
stands_at-requires c = record { fact_1 = (c.requires.fact_1.0, c.requires.fact_3.within); fact_2 = c.requires.fact_2 }

pub returns-then-stands_at : goal.returns-then-stands_at
returns-then-stands_at c =
    let a = c.args in
    let there = stands_yes a.points.now a.a (pt_of a.p) c.stands_at.result c.stands_at.ensures c.if-stands_at.true in
    queue_old vertex_rows a.points.now a.n (pt_of a.p) c.requires.fact_1.1 a.a c.requires.fact_3 there.0 there.1

pub overflow_mul-a : goal.overflow_mul-a
overflow_mul-a c = omega (arith, c.requires.fact_3.within, c.requires.fact_1.1)

pub overflow_mul-n : goal.overflow_mul-n
overflow_mul-n c = omega (arith, c.requires.fact_1.1)

pub lift-requires : goal.lift-requires
lift-requires c = omega (arith, c.requires.fact_3.within, c.requires.fact_1.1, c.requires.fact_1.2)

pub store-requires : goal.store-requires
store-requires c =
    omega (arith, c.requires.fact_3.within, c.requires.fact_1.1, c.requires.fact_1.2, c.lift.auto)

pub returns : goal.returns
returns c =
    let a = c.args in
    queue_new vertex_rows a.points.now a.n (pt_of a.p) c.requires.fact_1.1 a.a c.requires.fact_3
    (stands_no a.points.now a.a (pt_of a.p) c.stands_at.result c.stands_at.ensures c.if-stands_at.false) (omega (arith, c.requires.fact_1.1, c.requires.fact_1.2)) _ _ _ _
    (pt_back a.p.x a.p.y a.p.d c.requires.fact_2) c.lift.ensures c.store.ensures
