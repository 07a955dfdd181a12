-- `bonnetewe::calls::bonnetewe_tide` meets its contract. Assumes nothing.
use mathlib.Core.Path.{◌∙◌, ap}
use mir.Syntax.{w32}
use mir.Val.{SFits}
use mir.ValLaws.{to_z-of_z}
use lib.IntN.{ℤ}
use borrow.Author.Rules.{rules}
use Rattle.paper.specs.Tide.{tide}
use Rattle.bonnetewe.specs.ToldTide.{reading_by, told_tide}
use Rattle.bonnetewe.proofs.calls.bonnetewe_tide.Goals as goal

pub returns : goal.returns
returns c =
    let x : ℤ = c.args.first in
    let y : ℤ = c.args.second in
    let f : SFits w32 x = search rules in
    let g : SFits w32 y = search rules in
    let first = c.reading_by.ensures ∙ ap reading_by (to_z-of_z w32 x f) in
    let second = c.reading_by-2.ensures ∙ ap reading_by (to_z-of_z w32 y g) in
    c.of_tide.ensures ∙ ap told_tide (c.height-answer.ensures ∙ (λ i. tide (c.rule_by.ensures i) (first i) (second i)))
