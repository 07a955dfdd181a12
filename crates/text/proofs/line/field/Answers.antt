-- `text::line::field` meets its contract. Assumes nothing.
use Rattle.text.proofs.LineLaws.{put-behind}
use Rattle.text.proofs.line.field.Goals as goal

pub returns : goal.returns
returns c =
    put-behind c.words-next.ensures c.decimal.ensures
