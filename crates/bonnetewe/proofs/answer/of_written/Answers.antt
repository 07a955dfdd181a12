-- `bonnetewe::answer::of_written` meets its contract. Assumes nothing.
use native.Mathlib.Omega.{arith}
use borrow.Author.Rules.{rules}
use mathlib.Core.Path.{sym, ◌∙◌, ap, subst}
use Rattle.std.specs.Prelude.{Result}
use Rattle.seq.specs.Seq.{ℕ}
use Rattle.map_file.specs.declared.refusal.Refusal.{Refusal}
use Rattle.ovfile_write.specs.Answers.{answer_of}
use Rattle.bonnetewe.specs.Told.{told_length, Short}
use Rattle.bonnetewe.proofs.answer.of_written.Goals as goal

pub overflow_mul-result : goal.overflow_mul-result
overflow_mul-result c =
    omega (arith, subst Short (ap answer_of c.in-Ok.is) c.requires)

pub returns-in-Ok : goal.returns-in-Ok
returns-in-Ok c = sym (ap (λ (a : Result ℕ Refusal). told_length (answer_of a)) c.in-Ok.is)

pub returns-in-Err : goal.returns-in-Err
returns-in-Err c = c.join.ensures ∙ sym (ap (λ (a : Result ℕ Refusal). told_length (answer_of a)) c.in-Err.is)
