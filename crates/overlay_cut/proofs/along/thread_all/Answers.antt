-- `overlay_cut::along::thread_all` meets its contract. Assumes nothing.
use mathlib.Core.Path.{refl, ◌∙◌}
use Prim.Native.Nat.{◌-◌}
use Rattle.overlay_cut.specs.Cutting.{cut_starts, cut_turns, cut_ends}
use Rattle.overlay_cut.specs.Cuts.{part_within}
use Rattle.overlay_cut.specs.Laws.Along.{strung-part}
use borrow.Author.Rules.{rules}
use native.Mathlib.Omega.{arith}
use Rattle.overlay_cut.proofs.along.thread_all.Goals as goal
use Rattle.overlay_cut.proofs.along.thread_all.Goals.{After-thread_map-total, At-loop-m, Start}

pub loop-m-init : goal.loop-m-init
loop-m-init c = (search rules, refl, refl, c.requires.fact_3, cut_starts _ _ _ 0 _)

pub bounds-starts-m : goal.bounds-starts-m
bounds-starts-m c =
    omega (arith, c.requires.fact_1.1.long, c.loop-m.invariant.0)

pub bounds-starts-m-in-loop-m : goal.bounds-starts-m-in-loop-m
bounds-starts-m-in-loop-m c =
    omega (arith, c.requires.fact_1.1.long, c.loop-m.invariant.0)

pub overflow_sub-e : goal.overflow_sub-e
overflow_sub-e c =
    omega (arith, c.requires.fact_1.1.rises (c.loop-m.m - 1) (omega arith))

pub thread_map-total-requires : goal.thread_map-total-requires
thread_map-total-requires c =
    let l = c.loop-m in
    record {
      fact_1 = l.invariant.3;
      fact_2 = (strung-part c.requires.fact_2.0 _ (part_within c.requires.fact_1.1 (l.m - 1) (omega arith)), c.requires.fact_2.1);
      fact_3 = omega arith;
      fact_4 = c.requires.fact_1.1.few (l.m - 1) (omega arith);
    }

pub loop-m-preserved : goal.loop-m-preserved
loop-m-preserved c =
    let l = c.loop-m in
    let r = c.thread_map-total in (
      search rules,
      r.auto.rows ∙ l.invariant.1,
      r.auto.links ∙ l.invariant.2,
      r.ensures.0,
      cut_turns _ _ l.invariant.4 r.new.rows r.result (search rules) r.ensures.1,
    )

pub returns : goal.returns
returns c = (c.loop-m.invariant.3, cut_ends _ _ c.loop-m.invariant.4 (search rules))
