-- `text::lines::put_refused` meets its contract. Assumes nothing.
use mathlib.Core.Path.{refl}
use native.Mathlib.Omega.{arith}
use Rattle.paper.specs.Bytes.{ascii}
use Rattle.paper.specs.Listing.{decimal}
use Rattle.text.proofs.LineLaws.{put-behind, put-field, put_as}
use Rattle.text.proofs.lines.put_refused.Goals as goal

pub returns : goal.returns
returns c =
    let a = c.args in
    let two = put-field (ascii " map ") (decimal a.map) c.field-at.ensures c.field-at-2.ensures in
    let three = put-field (ascii " place ") (decimal a.place) two c.field-at-3.ensures in
    put_as (put-behind three c.words.ensures) refl (omega arith)
