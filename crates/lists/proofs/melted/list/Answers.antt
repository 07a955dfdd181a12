-- `lists::melted::list` meets its contract. Assumes nothing.
use Rattle.paper.specs.Melt.{melt}
use Rattle.lists.specs.Listed.{full_tables}
use Rattle.lists.specs.Laws.Room.{listed_of}
use Rattle.lists.specs.Filed.{melt-answered}
use Rattle.lists.proofs.melted.list.Goals as goal

pub put-length-requires : goal.put-length-requires
put-length-requires c =
    let a = c.args in
    melt-answered full_tables a.zones.now a.blocks.now a.bed.now c.melt-answer.ensures

pub returns : goal.returns
returns c =
    let a = c.args in
    listed_of (melt full_tables a.zones.now a.blocks.now a.bed.now) c.melt-answer.result c.melt-answer.ensures c.put-length.ensures
