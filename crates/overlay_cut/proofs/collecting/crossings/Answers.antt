-- `overlay_cut::collecting::crossings` meets its contract. Assumes nothing.
use Rattle.graph.specs.Upright.{upright-fewer}
use Rattle.overlay_cut.specs.Cuts.{part_within, part-carried}
use Rattle.overlay_cut.specs.Collecting.{gather_starts, gather_turns, gather_ends}
use borrow.Author.Rules.{rules}
use native.Mathlib.Omega.{arith}
use Rattle.overlay_cut.proofs.collecting.crossings.Goals as goal
use Rattle.overlay_cut.proofs.collecting.crossings.Goals.{At-loop-m, Start}

pub overflow_sub-e : goal.overflow_sub-e
overflow_sub-e c =
    omega (arith, c.requires.fact_2.rises c.loop-m.m (omega arith))

pub cross_map-total-requires : goal.cross_map-total-requires
cross_map-total-requires c =
    let l = c.loop-m in
    record {
      fact_1 = record { long = omega (arith, l.invariant.kept); within = l.invariant.within };
      fact_2 = part-carried c.requires.fact_2 l.m (omega arith);
      fact_3 = upright-fewer _ _ _ (part_within c.requires.fact_2 l.m (omega arith)) c.requires.fact_3;
    }

pub loop-m-preserved : goal.loop-m-preserved
loop-m-preserved c =
    let l = c.loop-m in
    let r = c.cross_map-total in
    gather_turns l.invariant (omega arith) r.auto.points r.ensures

pub loop-m-init : goal.loop-m-init
loop-m-init c = gather_starts (search rules)

pub returns : goal.returns
returns c = gather_ends c.loop-m.invariant (omega arith)
