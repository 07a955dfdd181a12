-- `overlay_cut::collecting::cross_map` meets its contract. Assumes nothing.
use mathlib.Core.Path.{sym, ◌∙◌, ap, subst}
use Prim.Native.Nat.{◌+◌}
use Rattle.paper.specs.Plane.{Seg}
use Rattle.laws_plane.specs.Cone.{UpV}
use Rattle.graph.specs.Upright.{upright-fewer}
use Rattle.overlay_cut.specs.Points.{points_of}
use Rattle.overlay_cut.specs.Crossed.{cross_row, carriers-fewer}
use Rattle.overlay_cut.specs.Collecting.{gathered, gather_starts, gather_turns, gather_ends}
use borrow.Author.Rules.{rules}
use native.Mathlib.Omega.{arith}
use Rattle.overlay_cut.proofs.collecting.cross_map.Goals as goal
use Rattle.overlay_cut.proofs.collecting.cross_map.Goals.{After-carrier_at-t, At-loop-k, Start}

pub carrier_at-t-requires : goal.carrier_at-t-requires
carrier_at-t-requires c =
    record { row = omega (arith, c.requires.fact_2.long); near = c.requires.fact_2.near (c.args.from + c.loop-k.k) (omega arith) }

pub cross_row-total-requires : goal.cross_row-total-requires
cross_row-total-requires c =
    let l = c.loop-k in
    let a = c.args in record {
      fact_1 = record { long = omega (arith, l.invariant.kept); within = l.invariant.within };
      fact_2 = carriers-fewer a.carriers.now (a.from + a.e) a.from (omega arith) c.requires.fact_2;
      fact_3 = c.carrier_at-t.ensures.near;
      fact_4 = upright-fewer a.carriers.now (a.from + a.e) a.from (omega arith) c.requires.fact_3;
      fact_5 = subst (λ (s : Seg). UpV s.up) (sym c.carrier_at-t.ensures.is) (c.requires.fact_3.up (a.from + l.k) (omega arith));
    }

pub loop-k-preserved : goal.loop-k-preserved
loop-k-preserved c =
    let l = c.loop-k in
    let r = c.cross_row-total in
    let a = c.args in
    gather_turns l.invariant (omega arith) r.auto.points (r.ensures ∙ ap (λ (s : Seg). gathered a.room (points_of l.points l.total) (cross_row a.carriers.now a.from s)) c.carrier_at-t.ensures.is)

pub loop-k-init : goal.loop-k-init
loop-k-init c = gather_starts (search rules)

pub returns : goal.returns
returns c = gather_ends c.loop-k.invariant (omega arith)
