-- `bonnetewe::met::point_of` meets its contract. Assumes nothing.
use borrow.Author.Rules.{rules}
use mathlib.Core.Path.{sym, ◌∙◌, ap}
use Rattle.std.specs.Prelude.{Result}
use Rattle.map_file.specs.declared.refusal.Refusal.{Refusal}
use Rattle.plane.specs.declared.kinds.Meeting.{Meeting}
use Rattle.meet.specs.Answer.{answer_of}
use Rattle.bonnetewe.specs.Met.{told_point}
use Rattle.bonnetewe.proofs.met.point_of.Goals as goal

pub returns-in-Ok : goal.returns-in-Ok
returns-in-Ok c = c.point_in.ensures ∙ sym (ap (λ (a : Result Meeting Refusal). told_point (answer_of a)) (c.in-Ok.is))

pub returns-in-Err : goal.returns-in-Err
returns-in-Err c = c.nowhere.ensures ∙ sym (ap (λ (a : Result Meeting Refusal). told_point (answer_of a)) c.in-Err.is)
