-- `text::lines::counts_line` meets its contract. Assumes nothing.
use mathlib.Core.Path.{refl}
use native.Mathlib.Omega.{arith}
use Rattle.paper.specs.Bytes.{ascii}
use Rattle.paper.specs.Listing.{decimal}
use Rattle.text.proofs.LineLaws.{put-behind, put-field, put_as}
use Rattle.text.proofs.lines.counts_line.Goals as goal

pub returns : goal.returns
returns c =
    let a = c.args in
    let two = put-field (ascii " edges ") (decimal a.edges) c.field-at.ensures c.field-at-2.ensures in
    let three = put-field (ascii " faces ") (decimal a.faces) two c.field-at-3.ensures in
    put_as (put-behind three c.words.ensures) refl (omega arith)
