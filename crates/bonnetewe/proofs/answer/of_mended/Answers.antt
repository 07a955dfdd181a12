-- `bonnetewe::answer::of_mended` meets its contract. Assumes nothing.
use borrow.Author.Rules.{rules}
use mathlib.Core.Path.{sym, ◌∙◌, ap}
use Rattle.std.specs.Prelude.{Result}
use Rattle.map_file.specs.declared.refusal.Refusal.{Refusal}
use Rattle.mend.specs.declared.answer.Mending.{Mending}
use Rattle.mend.specs.Answers.{answer_of}
use Rattle.bonnetewe.specs.Told.{told_map}
use Rattle.bonnetewe.proofs.answer.of_mended.Goals as goal

pub returns-in-Ok : goal.returns-in-Ok
returns-in-Ok c = c.join.ensures ∙ sym (ap (λ (a : Result Mending Refusal). told_map (answer_of a)) c.in-Ok.is)

pub returns-in-Err : goal.returns-in-Err
returns-in-Err c = c.join-in-Err.ensures ∙ sym (ap (λ (a : Result Mending Refusal). told_map (answer_of a)) c.in-Err.is)
