-- `bonnetewe::record::sources_of` meets its contract. Assumes nothing.
use mathlib.Core.Path.{sym, ◌∙◌, ap}
use borrow.Author.Rules.{rules}
use Rattle.std.specs.Prelude.{Option}
use Rattle.tables.specs.declared.edge_record.OverlayEdge.{OverlayEdge}
use Rattle.tables.specs.Found.{found_of}
use Rattle.bonnetewe.specs.Told.{four, told_sources}
use Rattle.bonnetewe.proofs.record.sources_of.Goals as goal

pub returns-in-Some : goal.returns-in-Some
returns-in-Some c =
    c.join.ensures
    ∙ (λ i. four (c.kind.ensures i) (c.in_first.ensures i) (c.in_second.ensures i) (c.in_third.ensures i))
    ∙ sym (ap (λ (f : Option OverlayEdge). told_sources (found_of f)) c.in-Some.is)
