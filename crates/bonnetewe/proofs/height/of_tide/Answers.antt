-- `bonnetewe::height::of_tide` meets its contract. Assumes nothing.
use mathlib.Core.Path.{sym, ap, ◌∙◌}
use mir.Syntax.{w32}
use mir.Val.{SFits}
use mir.ValLaws.{to_z-of_z}
use lib.IntN.{ℤ}
use borrow.Author.Rules.{rules}
use Rattle.std.specs.Prelude.{Result}
use Rattle.map_file.specs.declared.refusal.Refusal.{Refusal}
use Rattle.tide.specs.declared.rule.Height.{Height}
use Rattle.tide.specs.Answer.{answer_of}
use Rattle.bonnetewe.specs.ToldTide.{told_millimetres, told_tide}
use Rattle.bonnetewe.proofs.height.of_tide.Goals as goal

pub returns-in-Ok : goal.returns-in-Ok
returns-in-Ok c =
    let z : ℤ = c.in-Ok.h.millimetres in
    let f : SFits w32 z = search rules in
    c.of_millimetres.ensures ∙ ap told_millimetres (to_z-of_z w32 z f) ∙ sym (ap (λ (a : Result Height Refusal). told_tide (answer_of a)) c.in-Ok.is)

pub returns-in-Err : goal.returns-in-Err
returns-in-Err c = c.join.ensures ∙ sym (ap (λ (a : Result Height Refusal). told_tide (answer_of a)) c.in-Err.is)
