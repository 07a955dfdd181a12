-- `bonnetewe::sounded::of_counted` meets its contract. Assumes nothing.
use borrow.Author.Rules.{rules}
use mathlib.Core.Path.{sym, ◌∙◌, ap}
use Rattle.bonnetewe.specs.Sounded.{told_counted}
use Rattle.bonnetewe.proofs.sounded.of_counted.Goals as goal

pub returns-in-Ok : goal.returns-in-Ok
returns-in-Ok c = c.join.ensures ∙ sym (ap told_counted c.in-Ok.is)

pub returns-in-Err : goal.returns-in-Err
returns-in-Err c = c.join-in-Err.ensures ∙ sym (ap told_counted c.in-Err.is)
