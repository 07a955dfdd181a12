-- `overlay_cut::collecting::cross_pair` meets its contract: boxes that are apart, and every answer of `meeting`. Assumes nothing.
use mathlib.Core.Path.{◌≡◌, sym, ◌∙◌, ap, subst}
use Rattle.seq.specs.Seq.{List, Option, optional}
use Rattle.paper.specs.Plane.{Pt}
use Rattle.paper.specs.Meeting as Ways
use Rattle.paper.specs.Meeting.{meeting, point_of}
use Rattle.laws_plane.proofs.Boxes.{boxes-apart}
use Rattle.laws_meet.specs.Collect.{boxes-meeting}
use Rattle.plane.specs.Bounds.{NearIf}
use Rattle.plane.specs.Values.{seg_of, meeting_of}
use Rattle.plane.specs.declared.kinds.Meeting.{Meeting}
use Rattle.overlay_cut.specs.Points.{points_of}
use Rattle.overlay_cut.specs.Collecting.{gathered}
use Rattle.overlay_cut.proofs.collecting.cross_pair.Goals as goal
use Rattle.overlay_cut.proofs.collecting.cross_pair.Goals.{After-meeting, In-Crossing-2, In-Touching-2, Start}

-- what the call of `meeting` told, of each way
module _ (c : After-meeting) where
  abbrev after : Option Pt → List Pt
  after o = gathered c.args.room (points_of c.args.points.now c.args.n) (optional o)

  told : (m : Meeting) → c.meeting.result ≡ m → after (point_of (meeting_of m)) ≡ after (point_of (meeting (seg_of c.args.s) (seg_of c.args.t)))
  told m e = ap (λ (w : Ways.Meeting). after (point_of w)) (sym (ap meeting_of e) ∙ c.meeting.ensures.is)

  near : (m : Meeting) → c.meeting.result ≡ m → NearIf (point_of (meeting_of m))
  near m e = subst (λ (x : Meeting). NearIf (point_of (meeting_of x))) e c.meeting.ensures.near

pub append_new-requires : goal.append_new-requires
append_new-requires c =
    record { fact_1 = c.requires.fact_1; fact_2 = near (goal.at.append_new-requires c).After-meeting _ c.in-Touching.is }

pub append_new-requires-in-Crossing : goal.append_new-requires-in-Crossing
append_new-requires-in-Crossing c =
    record { fact_1 = c.requires.fact_1; fact_2 = near (goal.at.append_new-requires-in-Crossing c).After-meeting _ c.in-Crossing.is }

pub returns-then-boxes_apart : goal.returns-then-boxes_apart
returns-then-boxes_apart c =
    let a = c.args in
    let s = seg_of a.s in
    let t = seg_of a.t in
    let up = c.requires.fact_3 in
    ap (λ (w : Ways.Meeting). gathered a.room (points_of a.points.now a.n) (optional (point_of w)))
    (sym (boxes-meeting s t up.0 up.1 (boxes-apart s t (sym c.boxes_apart.ensures ∙ c.if-boxes_apart.true))))

pub returns-in-Apart : goal.returns-in-Apart
returns-in-Apart c = told c.before _ c.in-Apart.is

pub returns-in-Touching : goal.returns-in-Touching
returns-in-Touching c =
    c.append_new.ensures ∙ told (goal.at.returns-in-Touching c).After-meeting _ c.in-Touching.is

pub returns-in-Crossing : goal.returns-in-Crossing
returns-in-Crossing c =
    c.append_new-in-Crossing.ensures ∙ told (goal.at.returns-in-Crossing c).After-meeting _ c.in-Crossing.is

pub returns-in-Sharing : goal.returns-in-Sharing
returns-in-Sharing c = told c.before _ c.in-Sharing.is
