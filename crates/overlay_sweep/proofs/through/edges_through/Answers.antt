-- `overlay_sweep::through::edges_through` meets its contract. Assumes nothing.
use Rattle.overlay_sweep.proofs.through.edges_through.Goals as goal
use Rattle.overlay_sweep.proofs.through.edges_through.Goals.{After-start_to-started, After-through_to-to, After-west_of-from, Start}

pub west_of-from-requires : goal.west_of-from-requires
west_of-from-requires c =
    let r = c.requires in
    record { fact_1 = r.fact_2; fact_2 = r.fact_3 }

pub through_to-to-requires : goal.through_to-to-requires
through_to-to-requires c =
    let r = c.requires in
    record { fact_1 = c.west_of-from.ensures.within; fact_2 = r.fact_2 }

pub start_to-started-requires : goal.start_to-started-requires
start_to-started-requires c =
    let r = c.requires in
    record { fact_1 = r.fact_1.0; fact_2 = r.fact_1.1; fact_3 = r.fact_2 }

pub returns : goal.returns
returns c =
    record { west = c.west_of-from.ensures; through = c.through_to-to.ensures; starts = c.start_to-started.ensures }
