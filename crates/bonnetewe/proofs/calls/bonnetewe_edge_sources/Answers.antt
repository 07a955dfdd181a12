-- `bonnetewe::calls::bonnetewe_edge_sources` meets its contract. Assumes nothing.
use mathlib.Core.Path.{◌∙◌, ap}
use borrow.Author.Rules.{rules}
use Rattle.bonnetewe.specs.Told.{told_sources}
use Rattle.bonnetewe.proofs.calls.bonnetewe_edge_sources.Goals as goal

pub returns : goal.returns
returns c = c.sources_of.ensures ∙ ap told_sources c.edge-found.ensures
