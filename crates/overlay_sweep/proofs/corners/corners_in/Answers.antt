-- `overlay_sweep::corners::corners_in` meets its contract. Assumes nothing.
use mathlib.Core.Path.{sym, subst}
use Prim.Native.Nat.{◌-◌}
use native.Mathlib.Omega.{arith}
use borrow.Author.Rules.{rules}
use Rattle.plane.specs.Bounds.{Near}
use Rattle.plane.specs.Values.{pt_of}
use Rattle.overlay_sweep.specs.Ahead.{room_lasts}
use Rattle.overlay_sweep.specs.Laws.Corners.{cornered_starts, cornered_turns, cornered_ends}
use Rattle.overlay_sweep.proofs.corners.corners_in.Goals as goal
use Rattle.overlay_sweep.proofs.corners.corners_in.Goals.{After-point_at}

pub loop-v-init : goal.loop-v-init
loop-v-init c = cornered_starts (search rules)

pub point_at-requires : goal.point_at-requires
point_at-requires c = let l = c.loop-v in omega (arith, l.invariant.within, c.requires.fact_1.long)

near : (c : After-point_at) → Near (pt_of c.point_at.result)
near c =
    let l = c.loop-v in
    subst Near (sym c.point_at.ensures) (c.requires.fact_1.near (l.v - 1) (omega (arith, l.invariant.within, c.loop-v-test.true)))

pub corner_in-n-requires : goal.corner_in-n-requires
corner_in-n-requires c =
    let r = c.loop-v.invariant.is.rows in
    record { fact_1 = r.points; fact_2 = near (goal.at.corner_in-n-requires c).After-point_at; fact_3 = room_lasts _ _ r _ (near (goal.at.corner_in-n-requires c).After-point_at); fact_4 = r.room }

pub loop-v-preserved : goal.loop-v-preserved
loop-v-preserved c =
    let q = c.corner_in-n in
    cornered_turns (pt_of c.point_at.result) c.loop-v.invariant c.loop-v-test.true c.point_at.ensures (near (goal.at.loop-v-preserved c).After-point_at) q.auto.points q.ensures

pub shape_of-points : goal.shape_of-points
shape_of-points c = c.loop-v.invariant.kept

pub returns : goal.returns
returns c = cornered_ends c.loop-v.invariant (search rules)
