-- `overlay_cut::along::cut_thread` meets its contract: what is left to put in, put into the table, gives the whole. Assumes nothing.
use mathlib.Core.Path.{refl, ◌∙◌}
use Prim.Native.Nat.{◌+◌, ◌-◌, ◌*◌}
use native.Mathlib.Omega.{arith}
use borrow.Author.Rules.{rules}
use Rattle.paper.specs.Limits.{maps}
use Rattle.paper.specs.Pieces.{only}
use Rattle.overlay_cut.specs.Threads.{thread}
use Rattle.overlay_cut.specs.Laws.Along.{string_starts, string_turns, string_ends, thread_ends, thread_next, next_falls, next_under, next_thread}
use Rattle.overlay_cut.proofs.along.cut_thread.Goals as goal
use Rattle.overlay_cut.proofs.along.cut_thread.Goals.{After-link-total, At-loop-at, In-loop-at, Start}

pub loop-at-init : goal.loop-at-init
loop-at-init c =
    let a = c.args in
    (refl, refl, c.requires.fact_2.0, c.requires.fact_1, string_starts a.room a.n (only maps a.m a.number) a.rows.now a.count (thread a.nodes.now a.x))

pub overflow_mul-v : goal.overflow_mul-v
overflow_mul-v c =
    omega (arith, c.loop-at.invariant.2.long)

pub bounds-nodes-at : goal.bounds-nodes-at
bounds-nodes-at c =
    omega (arith, c.loop-at.invariant.2.long, c.loop-at-test.true)

pub overflow_cast-v : goal.overflow_cast-v
overflow_cast-v c =
    omega (arith, c.shared_slice_known-in-loop-at-1.given (2 * (c.loop-at.at - 1)))

pub link-total-requires : goal.link-total-requires
link-total-requires c =
    let l = c.loop-at in
    record { fact_1 = l.invariant.3; fact_2 = next_under l.invariant.2 c.loop-at-test.true; fact_3 = c.requires.fact_2.1; fact_4 = c.requires.fact_3; fact_5 = c.requires.fact_4 }

pub bounds-nodes-at-in-loop-at : goal.bounds-nodes-at-in-loop-at
bounds-nodes-at-in-loop-at c =
    omega (arith, c.loop-at.invariant.2.long, c.loop-at-test.true)

pub overflow_cast-at : goal.overflow_cast-at
overflow_cast-at c =
    omega (arith, c.shared_slice_known-in-loop-at-2-1.given (2 * (c.loop-at.at - 1) + 1))

pub loop-at-smaller : goal.loop-at-smaller
loop-at-smaller c =
    next_falls c.loop-at.invariant.2 c.loop-at-test.true

pub loop-at-preserved : goal.loop-at-preserved
loop-at-preserved c =
    let l = c.loop-at in
    let a = c.args in
    let p = c.loop-at-test.true in
    let r = c.link-total in (
      r.auto.rows ∙ l.invariant.0,
      r.auto.links ∙ l.invariant.1,
      next_thread l.invariant.2 p,
      r.ensures.0,
      string_turns a.room a.n (only maps a.m a.number) l.invariant.4 _ _ r.new.rows r.result (thread_next l.invariant.2 p) (next_under l.invariant.2 p) r.ensures.1,
    )

pub returns : goal.returns
returns c =
    let l = c.loop-at in
    let a = c.args in
    (l.invariant.3, string_ends a.room a.n (only maps a.m a.number) l.invariant.4 (thread_ends a.nodes.now l.at (search rules)))
