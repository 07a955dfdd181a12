-- `bonnetewe::yearly::bonnetewe_year_close` meets its contract. Assumes nothing.
use Rattle.bonnetewe.specs.ToldYear.{told-year}
use borrow.Author.Rules.{rules}
use Rattle.bonnetewe.proofs.yearly.bonnetewe_year_close.Goals as goal

pub returns : goal.returns
returns c =
    told-year c.args.year.rows c.close-closed.result _ _ c.of_closed.ensures c.close-closed.ensures
