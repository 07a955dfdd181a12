-- `year::face::count` meets its contract. Assumes nothing.
use Rattle.year.specs.Compared.{count-row}
use Rattle.year.proofs.face.count.Goals as goal

pub returns : goal.returns
returns c =
    let a = c.args in
    count-row a.rows.now a.r a.file _ _ c.sheets-s.ensures c.store.ensures
