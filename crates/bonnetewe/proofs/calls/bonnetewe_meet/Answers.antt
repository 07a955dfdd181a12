-- `bonnetewe::calls::bonnetewe_meet` meets its contract. Assumes nothing.
use mathlib.Core.Path.{◌∙◌}
use mir.Syntax.{w16}
use mir.ValLaws.{to_z-of_z}
use borrow.Author.Rules.{rules}
use Rattle.paper.specs.Meeting.{meet}
use Rattle.bonnetewe.specs.Met.{told-meeting_by}
use Rattle.bonnetewe.proofs.calls.bonnetewe_meet.Goals as goal

pub returns : goal.returns
returns c =
    let n = c.args in
    let f = c.ranges in
    told-meeting_by
    (meet n.ax n.ay n.bx n.by n.cx n.cy n.dx n.dy)
    (c.meet-answer.ensures ∙ (λ i.
    meet
    (to_z-of_z w16 n.ax f.ax i)
    (to_z-of_z w16 n.ay f.ay i)
    (to_z-of_z w16 n.bx f.bx i)
    (to_z-of_z w16 n.by f.by i)
    (to_z-of_z w16 n.cx f.cx i)
    (to_z-of_z w16 n.cy f.cy i)
    (to_z-of_z w16 n.dx f.dx i)
    (to_z-of_z w16 n.dy f.dy i)))
    c.point_of.ensures
    c.lay_point.ensures
    c.of_met.ensures
