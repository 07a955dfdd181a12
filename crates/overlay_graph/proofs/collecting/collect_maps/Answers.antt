-- `overlay_graph::collecting::collect_maps` meets its contract. Assumes nothing.
use native.Mathlib.Omega.{arith}
use Rattle.overlay_maps.specs.Layers.{Layers}
use Rattle.overlay_maps.specs.Given.{the_layers}
use Rattle.overlay_graph.specs.Laws.Standing.{corners-near, starts, upright}
use Rattle.overlay_graph.specs.Laws.CutLaws.{collected-once, collected-near, ordered_is, collected_over}
use Rattle.overlay_graph.proofs.collecting.collect_maps.Goals as goal
use Rattle.overlay_graph.proofs.collecting.collect_maps.Goals.{Start}

-- the maps that are lent
abbrev l : Start → Layers
l s = the_layers s.args.layers

pub collect-n-requires : goal.collect-n-requires
collect-n-requires c =
    record {
      fact_1 = record { long = c.requires.fact_2; within = omega arith };
      fact_2 = corners-near (l (goal.at.collect-n-requires c).Start) c.requires.fact_1;
      fact_3 = starts (l (goal.at.collect-n-requires c).Start) c.requires.fact_1;
      fact_4 = upright (l (goal.at.collect-n-requires c).Start) c.requires.fact_1;
    }

pub returns-then-room-n : goal.returns-then-room-n
returns-then-room-n c =
    let k = c.collect-n in
    let out = k.new.out in
    collected_over (l (goal.at.returns-then-room-n c).Start) c.requires.fact_1 c.args.room out k.result k.ensures c.if-room-n.true out

pub order-requires : goal.order-requires
order-requires c =
    let k = c.collect-n in
    let out = k.new.out in
    let few = c.if-room-n.false in (
      collected-near (l (goal.at.order-requires c).Start) c.requires.fact_1 c.args.room out k.result k.ensures few (omega (arith, few, c.requires.fact_2, k.auto.out)),
      collected-once (l (goal.at.order-requires c).Start) c.requires.fact_1 c.args.room out k.result k.ensures few,
    )

pub returns : goal.returns
returns c =
    let k = c.collect-n in
    let o = c.order in
    ordered_is (l (goal.at.returns c).Start) c.requires.fact_1 c.args.room k.new.out k.result k.ensures c.if-room-n.false o.new.points o.ensures
