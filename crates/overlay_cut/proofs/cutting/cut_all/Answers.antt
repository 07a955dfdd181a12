-- `overlay_cut::cutting::cut_all` meets its contract. Assumes nothing.
use mathlib.Core.Path.{refl, ◌∙◌}
use Prim.Native.Nat.{◌-◌}
use Rattle.overlay_cut.specs.Cutting.{cut_starts, cut_turns, cut_ends}
use Rattle.overlay_cut.specs.Between.{ended-part}
use Rattle.overlay_cut.specs.Cuts.{part_within, part-carried}
use borrow.Author.Rules.{rules}
use native.Mathlib.Omega.{arith}
use Rattle.overlay_cut.proofs.cutting.cut_all.Goals as goal
use Rattle.overlay_cut.proofs.cutting.cut_all.Goals.{After-cut_map-total, At-loop-m, Start}

pub loop-m-init : goal.loop-m-init
loop-m-init c = (search rules, refl, refl, c.requires.linked, cut_starts _ _ _ 0 _)

pub overflow_sub-e : goal.overflow_sub-e
overflow_sub-e c =
    omega (arith, c.args.chart.starting.rises (c.loop-m.m - 1) (omega arith))

pub cut_map-total-requires : goal.cut_map-total-requires
cut_map-total-requires c =
    let l = c.loop-m in
    record {
      fact_1 = l.invariant.3;
      fact_2 = (part-carried c.args.chart.starting (l.m - 1) (omega arith), ended-part c.requires.ended _ (part_within c.args.chart.starting (l.m - 1) (omega arith)));
      fact_3 = omega arith;
      fact_4 = c.args.chart.starting.few (l.m - 1) (omega arith);
    }

pub loop-m-preserved : goal.loop-m-preserved
loop-m-preserved c =
    let l = c.loop-m in
    let r = c.cut_map-total in (
      search rules,
      r.auto.rows ∙ l.invariant.1,
      r.auto.links ∙ l.invariant.2,
      r.ensures.0,
      cut_turns _ _ l.invariant.4 r.new.rows r.result (search rules) r.ensures.1,
    )

pub returns : goal.returns
returns c = (c.loop-m.invariant.3, cut_ends _ _ c.loop-m.invariant.4 (search rules))
