-- `bonnetewe::answer::of_checked` meets its contract. Assumes nothing.
use Rattle.std.specs.Prelude.{Result}
use borrow.Author.Rules.{rules}
use mathlib.Core.Path.{sym, ◌∙◌, ap}
use Rattle.map_file.specs.declared.refusal.Refusal.{Refusal}
use Rattle.map_check.specs.declared.answer.Counts.{Counts}
use Rattle.map_check.specs.Answer.{answer_of}
use Rattle.bonnetewe.specs.Told.{told_map}
use Rattle.bonnetewe.proofs.answer.of_checked.Goals as goal

pub returns-in-Ok : goal.returns-in-Ok
returns-in-Ok c = c.join.ensures ∙ sym (ap (λ (a : Result Counts Refusal). told_map (answer_of a)) c.in-Ok.is)

pub returns-in-Err : goal.returns-in-Err
returns-in-Err c = c.join-in-Err.ensures ∙ sym (ap (λ (a : Result Counts Refusal). told_map (answer_of a)) c.in-Err.is)
