-- `year::face::open_row` meets its contract. Assumes nothing.
use mathlib.Core.Path.{◌∙◌, ap}
use Rattle.seq.specs.Seq.{List, ℕ, row_stored}
use Rattle.laws_year.specs.Step.{first_face}
use Rattle.year.specs.TallyRows.{tally_width, cells_of}
use Rattle.year.proofs.face.open_row.Goals as goal

pub returns : goal.returns
returns c =
    let a = c.args in
    c.store.ensures ∙ ap (λ (w : List ℕ). row_stored tally_width w a.r (cells_of (first_face a.file (a.zone, a.block)))) c.lift.ensures
