-- `ovfile_write::bytes::put_edge` meets its contract. Assumes nothing.
use Rattle.std.specs.Prelude.{◌∷◌}
use mathlib.Core.Path.{◌∙◌}
use Rattle.seq.specs.Seq.{[], sets, gather}
use Rattle.paper.specs.Bytes.{le}
use Rattle.ovfile_write.proofs.bytes.put_edge.Goals as goal

pub returns : goal.returns
returns c =
    let a = c.args in
    c.put_fields.ensures
    ∙ (λ i. sets a.buffer.now a.at (gather (le 2)
    (c.half_cell-lower.ensures i
    ∷ c.half_cell-upper.ensures i
    ∷ c.source_cell-first.ensures i
    ∷ c.source_cell-second.ensures i
    ∷ c.source_cell-third.ensures i
    ∷ c.half_cell-onward.ensures i
    ∷ c.half_cell-back.ensures i
    ∷ c.half_cell-left.ensures i
    ∷ c.half_cell-right.ensures i
    ∷ [])))
