-- `tables::half_rows::store_halves` meets its contract. Assumes nothing.
use mathlib.Core.Path.{refl}
use Prim.Native.Nat.{◌*◌}
use Rattle.tables.specs.Rows.{half_of}
use Rattle.tables.proofs.RowLaws.{laid-wiped}
use Rattle.tables.proofs.half_rows.store_halves.Goals as goal
use Rattle.tables.proofs.half_rows.store_halves.Goals.{After-lay, Start}

pub returns : goal.returns
returns c =
    let a = c.args in
    laid-wiped 0 5 (2 * a.edges) (half_of a.origins.now a.next.now a.prev.now a.face.now) a.halves.now (λ k. refl) c.requires.1 c.lay.ensures c.wipe_from.ensures
