-- `bonnetewe::met::of_met` meets its contract. Assumes nothing.
use borrow.Author.Rules.{rules}
use mathlib.Core.Path.{sym, ◌∙◌, ap}
use Rattle.seq.specs.Seq.{ℕ}
use Rattle.std.specs.Prelude.{Result}
use Rattle.map_file.specs.declared.refusal.Refusal.{Refusal}
use Rattle.plane.specs.declared.kinds.Meeting.{Meeting}
use Rattle.meet.specs.Answer.{answer_of}
use Rattle.bonnetewe.specs.Told.{four}
use Rattle.bonnetewe.specs.Met.{told_meeting}
use Rattle.bonnetewe.proofs.met.of_met.Goals as goal

pub returns-in-Ok : goal.returns-in-Ok
returns-in-Ok c =
    c.join.ensures ∙ ap (λ (x : ℕ). four 0 x 0 0) c.kind.ensures ∙ sym (ap (λ (a : Result Meeting Refusal). told_meeting (answer_of a)) c.in-Ok.is)

pub returns-in-Err : goal.returns-in-Err
returns-in-Err c = c.join-in-Err.ensures ∙ sym (ap (λ (a : Result Meeting Refusal). told_meeting (answer_of a)) c.in-Err.is)
