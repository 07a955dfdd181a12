-- `overlay_cut::collecting::corners` meets its contract. Assumes nothing.
use mathlib.Core.Path.{sym, ◌∙◌, ap, subst}
use mathlib.Core.List.{[], ◌∷◌}
use Rattle.seq.specs.Rows.{rows_one}
use Rattle.paper.specs.Plane.{Pt}
use Rattle.plane.specs.Bounds.{Near}
use Rattle.graph.specs.Flat.{the_point_at}
use Rattle.overlay_cut.specs.Points.{points_of}
use Rattle.overlay_cut.specs.Collecting.{gathered, gather_starts, gather_turns, gather_ends}
use borrow.Author.Rules.{rules}
use native.Mathlib.Omega.{arith}
use Rattle.overlay_cut.proofs.collecting.corners.Goals as goal
use Rattle.overlay_cut.proofs.collecting.corners.Goals.{After-point_at-p, At-loop-v, Start}

pub append_new-total-requires : goal.append_new-total-requires
append_new-total-requires c =
    let l = c.loop-v in
    record {
      fact_1 = record { long = omega (arith, l.invariant.kept); within = l.invariant.within };
      fact_2 = subst Near (sym c.point_at-p.ensures) (c.requires.fact_2.near l.v (omega arith));
    }

pub loop-v-preserved : goal.loop-v-preserved
loop-v-preserved c =
    let l = c.loop-v in
    let r = c.append_new-total in
    gather_turns l.invariant (omega arith) r.auto.points (r.ensures ∙ ap (λ (p : Pt). gathered c.args.room (points_of l.points l.total) (p ∷ [])) c.point_at-p.ensures)

pub returns : goal.returns
returns c =
    let a = c.args in
    gather_ends c.loop-v.invariant (omega arith)
    ∙ ap (gathered a.room (points_of a.points.now a.n)) (rows_one (the_point_at a.corners.now) a.c)

pub loop-v-init : goal.loop-v-init
loop-v-init c = gather_starts (search rules)
