-- `overlay_cut::collecting::cross_row` meets its contract. Assumes nothing.
use mathlib.Core.Path.{sym, ◌∙◌, ap, subst}
use Rattle.seq.specs.Seq.{optional}
use Rattle.paper.specs.Plane.{Seg}
use Rattle.paper.specs.Meeting.{meeting, point_of}
use Rattle.laws_plane.specs.Cone.{UpV}
use Rattle.plane.specs.Values.{seg_of}
use Rattle.overlay_cut.specs.Points.{points_of}
use Rattle.overlay_cut.specs.Collecting.{gathered, gather_starts, gather_turns, gather_ends}
use borrow.Author.Rules.{rules}
use native.Mathlib.Omega.{arith}
use Rattle.overlay_cut.proofs.collecting.cross_row.Goals as goal
use Rattle.overlay_cut.proofs.collecting.cross_row.Goals.{After-carrier_at-s, At-loop-j, Start}

pub carrier_at-s-requires : goal.carrier_at-s-requires
carrier_at-s-requires c = record { row = omega (arith, c.requires.fact_2.long); near = c.requires.fact_2.near c.loop-j.j (omega arith) }

pub cross_pair-total-requires : goal.cross_pair-total-requires
cross_pair-total-requires c =
    let l = c.loop-j in
    record {
      fact_1 = record { long = omega (arith, l.invariant.kept); within = l.invariant.within };
      fact_2 = (c.carrier_at-s.ensures.near, c.requires.fact_3);
      fact_3 = (subst (λ (s : Seg). UpV s.up) (sym c.carrier_at-s.ensures.is) (c.requires.fact_4.up l.j (omega arith)), c.requires.fact_5);
    }

pub loop-j-preserved : goal.loop-j-preserved
loop-j-preserved c =
    let l = c.loop-j in
    let r = c.cross_pair-total in
    let t = seg_of c.args.t in
    gather_turns l.invariant (omega arith) r.auto.points (r.ensures ∙ ap (λ (s : Seg). gathered c.args.room (points_of l.points l.total) (optional (point_of (meeting s t)))) c.carrier_at-s.ensures.is)

pub loop-j-init : goal.loop-j-init
loop-j-init c = gather_starts (search rules)

pub returns : goal.returns
returns c = gather_ends c.loop-j.invariant (omega arith)
