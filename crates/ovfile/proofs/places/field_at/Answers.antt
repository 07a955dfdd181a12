-- `ovfile::places::field_at` meets its contract. Assumes nothing.
use native.Mathlib.Omega.{arith}
use Rattle.ovfile.specs.Known.{rows-near}
use Rattle.ovfile.proofs.places.field_at.Goals as goal
use Rattle.ovfile.proofs.places.field_at.Goals.{Start}

pub overflow_add-result : goal.overflow_add-result
overflow_add-result c =
    let a = c.args in
    omega (arith, c.row_at.ensures, rows-near a.size a.n c.requires.1, c.requires.0)
