-- `lists::from_maps::list` meets its contract. Assumes nothing.
use Rattle.paper.specs.Overlay.{overlay}
use Rattle.lists.specs.Listed.{full_tables}
use Rattle.lists.specs.Laws.Room.{listed_of}
use Rattle.lists.specs.Filed.{overlay-answered}
use Rattle.lists.proofs.from_maps.list.Goals as goal

pub put-length-requires : goal.put-length-requires
put-length-requires c =
    let a = c.args in
    overlay-answered full_tables a.zones.now a.blocks.now a.bed.now c.overlay-answer.ensures

pub returns : goal.returns
returns c =
    let a = c.args in
    listed_of (overlay full_tables a.zones.now a.blocks.now a.bed.now) c.overlay-answer.result c.overlay-answer.ensures c.put-length.ensures
