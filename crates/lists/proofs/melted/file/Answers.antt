-- `lists::melted::file` meets its contract. Assumes nothing.
use mathlib.Core.Path.{◌∙◌, ap}
use Rattle.seq.specs.Seq.{length}
use Rattle.lists.specs.Filed.{filed}
use Rattle.lists.proofs.melted.file.Goals as goal

pub returns : goal.returns
returns c = c.file_of.ensures ∙ ap (filed (length c.args.buffer.now)) c.melt-answer.ensures
