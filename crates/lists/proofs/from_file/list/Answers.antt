-- `lists::from_file::list` meets its contract. Assumes nothing.
use Rattle.paper.specs.Reader.{read}
use Rattle.lists.specs.Listed.{full_tables}
use Rattle.lists.specs.Laws.Room.{read-answered, listed_of}
use Rattle.lists.proofs.from_file.list.Goals as goal

pub put-length-requires : goal.put-length-requires
put-length-requires c =
    read-answered full_tables c.args.file.now c.read-answer.ensures

pub returns : goal.returns
returns c =
    listed_of (read full_tables c.args.file.now) c.read-answer.result c.read-answer.ensures c.put-length.ensures
