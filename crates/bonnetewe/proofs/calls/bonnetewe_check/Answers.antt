-- `bonnetewe::calls::bonnetewe_check` meets its contract. Assumes nothing.
use borrow.Author.Rules.{rules}
use mathlib.Core.Path.{◌∙◌, ap}
use Rattle.bonnetewe.specs.Told.{told_map}
use Rattle.bonnetewe.proofs.calls.bonnetewe_check.Goals as goal

pub returns : goal.returns
returns c = c.of_checked.ensures ∙ ap told_map c.check-answer.ensures
