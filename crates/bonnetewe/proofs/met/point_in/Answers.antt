-- `bonnetewe::met::point_in` meets its contract. Assumes nothing.
use borrow.Author.Rules.{rules}
use mathlib.Core.Path.{sym, ◌∙◌, ap}
use Rattle.plane.specs.declared.kinds.Meeting.{Meeting}
use Rattle.plane.specs.Values.{meeting_of}
use Rattle.bonnetewe.specs.Met.{point_in}
use Rattle.bonnetewe.proofs.met.point_in.Goals as goal

pub returns-in-Apart : goal.returns-in-Apart
returns-in-Apart c = c.nowhere.ensures ∙ sym (ap (λ (m : Meeting). point_in (meeting_of m)) c.in-Apart.is)

pub returns-in-Touching : goal.returns-in-Touching
returns-in-Touching c = sym (ap (λ (m : Meeting). point_in (meeting_of m)) c.in-Touching.is)

pub returns-in-Crossing : goal.returns-in-Crossing
returns-in-Crossing c = sym (ap (λ (m : Meeting). point_in (meeting_of m)) c.in-Crossing.is)

pub returns-in-Sharing : goal.returns-in-Sharing
returns-in-Sharing c = c.nowhere-in-Sharing.ensures ∙ sym (ap (λ (m : Meeting). point_in (meeting_of m)) c.in-Sharing.is)
