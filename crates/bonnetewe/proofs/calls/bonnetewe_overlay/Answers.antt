-- `bonnetewe::calls::bonnetewe_overlay` meets its contract. Assumes nothing.
use borrow.Author.Rules.{rules}
use Rattle.paper.specs.Lent.{lengths_of}
use Rattle.paper.specs.Overlay.{overlay}
use Rattle.tables.specs.Values.{tables_by}
use Rattle.bonnetewe.specs.Told.{told_by}
use Rattle.bonnetewe.proofs.calls.bonnetewe_overlay.Goals as goal

pub returns : goal.returns
returns c =
    let a = c.args in
    told_by
    (overlay (lengths_of (tables_by a.vertices.now a.halves.now a.sources.now a.faces.now)) a.zones.now a.blocks.now a.bed.now)
    c.overlay-answer.ensures
    c.of_answer.ensures
