-- `bonnetewe::height::height_of` meets its contract. Assumes nothing.
use mathlib.Core.Path.{◌≡◌, refl, sym, ap, ◌∙◌}
use mathlib.Core.Bool.{false}
use lib.IntN.{pos}
use lib.Ieee.{fin, binary64, of_bits}
use borrow.Author.Rules.{rules}
use Rattle.std.specs.Prelude.{Result}
use Rattle.map_file.specs.declared.refusal.Refusal.{Refusal}
use Rattle.tide.specs.declared.rule.Height.{Height}
use Rattle.tide.specs.Answer.{answer_of}
use Rattle.bonnetewe.specs.ToldTide.{told_height}
use Rattle.bonnetewe.proofs.height.height_of.Goals as goal

nothing : of_bits binary64 0 ≡ fin false 0 (pos 0)
unfolding of_bits
nothing = refl

pub returns-in-Err : goal.returns-in-Err
returns-in-Err c = nothing ∙ sym (ap (λ (a : Result Height Refusal). told_height (answer_of a)) c.in-Err.is)
