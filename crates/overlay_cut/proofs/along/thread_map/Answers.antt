-- `overlay_cut::along::thread_map` meets its contract. Assumes nothing.
use mathlib.Core.Path.{refl, ◌∙◌}
use Prim.Native.Nat.{◌+◌, ◌-◌}
use native.Mathlib.Omega.{arith}
use borrow.Author.Rules.{rules}
use Rattle.overlay_cut.specs.Cutting.{cut_starts, cut_turns, cut_ends}
use Rattle.overlay_cut.specs.Threads.{thread_row}
use Rattle.overlay_cut.proofs.along.thread_map.Goals as goal
use Rattle.overlay_cut.proofs.along.thread_map.Goals.{After-cut_thread-total, At-loop-k, In-loop-k, Start}

pub loop-k-init : goal.loop-k-init
loop-k-init c =
    (search rules, refl, refl, c.requires.fact_1, cut_starts _ _ _ _ _)

pub overflow_add-x : goal.overflow_add-x
overflow_add-x c =
    let long = c.requires.fact_2.0.edges in
    omega (arith, long, c.loop-k.invariant.0)

pub bounds-last-from : goal.bounds-last-from
bounds-last-from c =
    omega (arith, c.requires.fact_2.0.edges, c.loop-k.invariant.0, c.loop-k-test.true)

pub overflow_cast-x : goal.overflow_cast-x
overflow_cast-x c =
    omega (arith, c.shared_slice_known-in-loop-k-1.given (c.args.from + (c.loop-k.k - 1)))

pub cut_thread-total-requires : goal.cut_thread-total-requires
cut_thread-total-requires c =
    let l = c.loop-k in
    record {
      fact_1 = l.invariant.3;
      fact_2 = (c.requires.fact_2.0.threads (c.args.from + (l.k - 1)) (omega (arith, l.invariant.0, c.loop-k-test.true)), c.requires.fact_2.1);
      fact_3 = c.requires.fact_3;
      fact_4 = omega (arith, l.invariant.0, c.loop-k-test.true, c.requires.fact_4);
    }

pub loop-k-preserved : goal.loop-k-preserved
loop-k-preserved c =
    let l = c.loop-k in
    let s = c.args in
    let r = c.cut_thread-total in (
      search rules,
      r.auto.rows ∙ l.invariant.1,
      r.auto.links ∙ l.invariant.2,
      r.ensures.0,
      cut_turns _ (thread_row s.last.now s.nodes.now s.from s.m) l.invariant.4 r.new.rows r.result (search rules) r.ensures.1,
    )

pub returns : goal.returns
returns c = (c.loop-k.invariant.3, cut_ends _ _ c.loop-k.invariant.4 (search rules))
