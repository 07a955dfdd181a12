-- `thin::moving::move_points` meets its contract: before a turn the rows of the marked vertices below the counter are moved. Assumes nothing.
use mathlib.Core.Path.{refl, ◌∙◌}
use borrow.Author.Tests.{lt-ltb, le-ltb}
use Rattle.seq.specs.Loops.Selecting.{count_most}
use Rattle.thin.specs.Laws.Moving.{move_starts, move-takes, move-skips, move_ends, point-kept, point-stored}
use native.Mathlib.Omega.{arith}
use Rattle.thin.proofs.moving.move_points.Goals as goal
use Rattle.thin.proofs.moving.move_points.Goals.{then-marks-v-gt0, else-marks-v-gt0}

pub loop-v-init : goal.loop-v-init
loop-v-init c = (refl, move_starts)

pub move_point-requires : goal.move_point-requires
move_point-requires c =
    omega (arith, count_most c.loop-v.invariant.1.counted, c.loop-v.invariant.0)

pub overflow_add-c : goal.overflow_add-c
overflow_add-c c =
    omega (arith, count_most c.loop-v.invariant.1.counted)

pub loop-v-preserved : goal.loop-v-preserved
loop-v-preserved c =
    let r = c.loop-v.invariant in
    let points = c.args.points.now in
    elim c.if-marks-v-gt0.branch [
      | then-marks-v-gt0 w ↦ rw (w.out-is, w.c-is) (
        point-kept points c.loop-v.out _ c.loop-v.v c.loop-v.c w.move_point.ensures ∙ r.0,
        move-takes r.1 (omega arith) (lt-ltb _ _ w.if-marks-v-gt0.true)
            (point-stored points c.loop-v.out _ c.loop-v.v c.loop-v.c w.move_point.ensures (omega (arith, count_most r.1.counted, r.0))),
      )
      | else-marks-v-gt0 w ↦ rw (w.out-is, w.c-is) (r.0, move-skips r.1 (omega arith) (le-ltb _ _ w.if-marks-v-gt0.false))
    ]

pub shape_of-out : goal.shape_of-out
shape_of-out c = c.loop-v.invariant.0

pub returns : goal.returns
returns c =
    let r = move_ends c.loop-v.invariant.1 (omega arith) in
    record { is = r.0; rows = r.1 }
