-- `year::face::sheets` meets its contract. Assumes nothing.
use Rattle.year.specs.Compared.{sheets_same, sheets_more}
use Rattle.year.proofs.face.sheets.Goals as goal

pub returns-then-rows-at : goal.returns-then-rows-at
returns-then-rows-at c = let a = c.args in sheets_same a.rows.now a.r a.file c.if-rows-at.true

pub returns-else-rows-at : goal.returns-else-rows-at
returns-else-rows-at c = let a = c.args in sheets_more a.rows.now a.r a.file c.if-rows-at.false
