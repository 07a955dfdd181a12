-- `bonnetewe::answer::of_answer` meets its contract. Assumes nothing.
use borrow.Author.Rules.{rules}
use mathlib.Core.Path.{sym, ◌∙◌, ap}
use Rattle.tables.specs.Answers.{Answer}
use Rattle.tables.specs.Values.{answer_of}
use Rattle.bonnetewe.specs.Told.{told}
use Rattle.bonnetewe.proofs.answer.of_answer.Goals as goal

pub returns-in-Ok : goal.returns-in-Ok
returns-in-Ok c = c.join.ensures ∙ sym (ap (λ (a : Answer). told (answer_of a)) c.in-Ok.is)

pub returns-in-Err : goal.returns-in-Err
returns-in-Err c = c.join-in-Err.ensures ∙ sym (ap (λ (a : Answer). told (answer_of a)) c.in-Err.is)
