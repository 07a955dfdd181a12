-- `text::edges::ends_field` meets its contract. Assumes nothing.
use Rattle.paper.specs.Bytes.{ascii}
use Rattle.paper.specs.Listing.{decimal}
use Rattle.text.proofs.LineLaws.{put-field}
use Rattle.text.proofs.edges.ends_field.Goals as goal

pub returns : goal.returns
returns c =
    let two = put-field (ascii " ") (decimal c.args.lower) c.field-at.ensures c.field-at-2.ensures in
    put-field (ascii " ") (decimal c.args.upper) two c.field.ensures
