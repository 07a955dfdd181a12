-- `bonnetewe::calls::bonnetewe_edge_ends` meets its contract. Assumes nothing.
use mathlib.Core.Path.{◌∙◌, ap}
use borrow.Author.Rules.{rules}
use Rattle.bonnetewe.specs.Told.{told_ends}
use Rattle.bonnetewe.proofs.calls.bonnetewe_edge_ends.Goals as goal

pub returns : goal.returns
returns c = c.ends_of.ensures ∙ ap told_ends c.edge-found.ensures
