-- `text::lines::face_line` meets its contract. Assumes nothing.
use native.Mathlib.Omega.{arith}
use Rattle.seq.specs.Seq.{cond, eqb}
use Rattle.paper.specs.Bytes.{ascii}
use Rattle.paper.specs.Listing.{decimal}
use Rattle.text.proofs.LineLaws.{put_as, put-behind, put-field, face-fields}
use Rattle.text.proofs.lines.face_line.Goals as goal

pub returns : goal.returns
returns c =
    let a = c.args in
    let h = c.cell-3 in
    let o = c.cell-4 in
    let dash = cond (eqb a.face 0) (ascii "-") (decimal h.result) in
    let two = put-field (ascii " ") dash c.labels_field-at.ensures c.least_field-at.ensures in
    let three = put-field (ascii " ") (decimal o.result) two c.field-at.ensures in
    let text = face-fields a.faces.now a.face c.cell.ensures c.cell-2.ensures h.ensures o.ensures in
    put_as (put-behind three c.words.ensures) text (omega arith)
