-- `bonnetewe::record::ends_of` meets its contract. Assumes nothing.
use mathlib.Core.Path.{sym, ◌∙◌, ap}
use borrow.Author.Rules.{rules}
use Rattle.seq.specs.Seq.{ℕ}
use Rattle.std.specs.Prelude.{Option}
use Rattle.tables.specs.declared.edge_record.OverlayEdge.{OverlayEdge}
use Rattle.tables.specs.Found.{found_of}
use Rattle.bonnetewe.specs.Told.{four, told_ends}
use Rattle.bonnetewe.proofs.record.ends_of.Goals as goal

pub returns-in-Some : goal.returns-in-Some
returns-in-Some c =
    let e = c.in-Some.e in
    c.join.ensures ∙ ap (λ (x : ℕ). four x e.lower e.upper 0) c.kind.ensures
    ∙ sym (ap (λ (f : Option OverlayEdge). told_ends (found_of f)) c.in-Some.is)
