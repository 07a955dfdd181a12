-- `text::lines::labels_field` meets its contract. Assumes nothing.
use Rattle.paper.specs.Bytes.{ascii}
use Rattle.paper.specs.Listing.{decimal}
use Rattle.text.proofs.LineLaws.{put-field}
use Rattle.text.proofs.lines.labels_field.Goals as goal

pub returns : goal.returns
returns c =
    let a = c.args in
    let two = put-field (ascii " ") (decimal a.first) c.field-at.ensures c.field-at-2.ensures in
    put-field (ascii " ") (decimal a.second) two c.field.ensures
