-- `overlay_graph::collecting::sweep_maps` meets its contract. Assumes nothing.
use Rattle.overlay_maps.specs.Layers.{Layers}
use Rattle.overlay_maps.specs.Given.{the_layers}
use Rattle.overlay_graph.specs.Laws.Sweeping.{layers-given, layers-swept}
use Rattle.overlay_graph.proofs.collecting.sweep_maps.Goals as goal
use Rattle.overlay_graph.proofs.collecting.sweep_maps.Goals.{Start}

-- the maps that are lent
abbrev l : Start → Layers
l s = the_layers s.args.layers

pub sweep-requires : goal.sweep-requires
sweep-requires c =
    record { fact_1 = layers-given (l (goal.at.sweep-requires c).Start) c.requires.fact_1 c.args.points.now c.requires.fact_2; fact_2 = c.requires.fact_3 }

pub returns : goal.returns
returns c =
    let k = c.sweep in
    record { collected = layers-swept (l (goal.at.returns c).Start) c.requires.fact_1 k.new.out k.result.stops k.ensures.stops; threads = k.ensures.threads }
