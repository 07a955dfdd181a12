-- `overlay_graph::tracing::lay_net` meets its contract. Assumes nothing.
use Rattle.overlay_maps.specs.Layers.{Layers}
use Rattle.overlay_maps.specs.Given.{the_layers}
use Rattle.overlay_graph.specs.Given.{the_cut}
use Rattle.overlay_graph.specs.Laws.Standing.{starts}
use Rattle.overlay_graph.specs.Laws.Tracing.{net_by}
use Rattle.overlay_graph.proofs.tracing.lay_net.Goals as goal
use Rattle.overlay_graph.proofs.tracing.lay_net.Goals.{Start}

-- the maps that are lent
abbrev l : Start → Layers
l s = the_layers s.args.layers

pub carriers-requires : goal.carriers-requires
carriers-requires c =
    record { fact_1 = c.requires.fact_2.pieces_long; fact_2 = starts (l (goal.at.carriers-requires c).Start) c.requires.fact_1; fact_3 = c.requires.fact_3.1 }

pub returns : goal.returns
returns c =
    let a = c.args in
    let p = c.requires in
    let o = c.origins in
    let b = c.carriers in
    net_by (l (goal.at.returns c).Start) p.fact_1 (the_cut a.cut) p.fact_2 a.ends.now a.lines.now p.fact_3.0 p.fact_3.1
    o.new.out b.new.out o.ensures b.ensures
