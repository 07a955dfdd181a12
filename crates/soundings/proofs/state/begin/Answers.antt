-- `soundings::state::begin` meets its contract: the maps are refused, or laid. Assumes nothing.
use lib.ListN.{replicate}
use Rattle.soundings.specs.Fits.{begins}
use Rattle.soundings.proofs.state.begin.Goals as goal

pub returns : goal.returns
returns c =
    let a = c.args in
    let l = c.lay_both-c in
    begins a.zones.now a.blocks.now _ _ _ _ (replicate 4 0) (replicate 2668 0) (replicate 1334 0) _ _ _ _ _ c.edge_count-edges.ensures c.edge_count-edges2.ensures c.at_start-progress.ensures l.ensures.0 l.ensures.1 l.ensures.2
