-- `text::edges::two_field` meets its contract. Assumes nothing.
use Rattle.paper.specs.Listing.{decimal}
use Rattle.text.proofs.LineLaws.{put-field}
use Rattle.text.proofs.edges.two_field.Goals as goal

pub returns : goal.returns
returns c =
    put-field c.args.other.now (decimal c.args.k) c.field-at.ensures c.field.ensures
