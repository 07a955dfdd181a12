-- `bonnetewe::yearly::of_closed` meets its contract. Assumes nothing.
use mathlib.Core.Path.{sym, ◌∙◌, ap}
use Rattle.bonnetewe.specs.ToldYear.{told_closed}
use borrow.Author.Rules.{rules}
use Rattle.bonnetewe.proofs.yearly.of_closed.Goals as goal

pub returns-in-Ok : goal.returns-in-Ok
returns-in-Ok c = sym (ap told_closed c.in-Ok.is)

pub returns-in-Err : goal.returns-in-Err
returns-in-Err c = c.join.ensures ∙ sym (ap told_closed c.in-Err.is)
