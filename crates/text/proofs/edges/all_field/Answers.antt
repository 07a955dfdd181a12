-- `text::edges::all_field` meets its contract. Assumes nothing.
use native.Mathlib.Omega.{arith}
use mathlib.Core.Path.{refl}
use Rattle.paper.specs.Bytes.{ascii}
use Rattle.paper.specs.Listing.{decimal}
use Rattle.text.proofs.LineLaws.{put-field, put_as}
use Rattle.text.proofs.edges.all_field.Goals as goal

pub returns : goal.returns
returns c =
    let two = put-field (ascii " ") (decimal c.args.k) c.field-at.ensures c.field-at-2.ensures in
    put_as (put-field (ascii " ") (decimal c.args.l) two c.field.ensures) refl (omega arith)
