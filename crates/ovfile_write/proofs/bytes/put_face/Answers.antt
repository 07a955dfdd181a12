-- `ovfile_write::bytes::put_face` meets its contract. Assumes nothing.
use Rattle.std.specs.Prelude.{◌∷◌}
use mathlib.Core.Path.{◌∙◌}
use Rattle.seq.specs.Seq.{[], sets, gather}
use Rattle.paper.specs.Bytes.{le}
use Rattle.ovfile_write.proofs.bytes.put_face.Goals as goal

pub returns : goal.returns
returns c =
    let a = c.args in
    c.put_fields.ensures
    ∙ (λ i. sets a.buffer.now a.at (gather (le 2)
    (c.face_cell-first.ensures i
    ∷ c.face_cell-second.ensures i
    ∷ c.face_cell-third.ensures i
    ∷ c.face_cell-outer.ensures i
    ∷ c.face_cell-holes.ensures i
    ∷ [])))
