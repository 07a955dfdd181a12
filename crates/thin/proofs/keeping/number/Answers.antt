-- `thin::keeping::number` meets its contract: before a turn the cells below the counter are the counts. Assumes nothing.
use borrow.Author.Tests.{lt-ltb, le-ltb}
use Rattle.seq.specs.Loops.Filling.{fill_starts, fill_turns, fill_ends}
use Rattle.seq.specs.Loops.Selecting.{count_starts, count_most, count-takes, count-skips}
use borrow.Author.Rules.{rules}
use native.Mathlib.Omega.{arith}
use Rattle.thin.proofs.keeping.number.Goals as goal
use Rattle.thin.proofs.keeping.number.Goals.{then-marks-v-gt0, else-marks-v-gt0}

pub loop-v-init : goal.loop-v-init
loop-v-init c = (fill_starts (search rules), count_starts)

pub overflow_cast-numbers : goal.overflow_cast-numbers
overflow_cast-numbers c =
    omega (arith, count_most c.loop-v.invariant.1)

pub overflow_add-c : goal.overflow_add-c
overflow_add-c c =
    omega (arith, count_most c.loop-v.invariant.1)

pub loop-v-preserved : goal.loop-v-preserved
loop-v-preserved c =
    let r = c.loop-v.invariant in (
      fill_turns r.0 (omega arith) r.1.is,
      elim c.if-marks-v-gt0.branch [ then-marks-v-gt0 w ↦ count-takes r.1 (omega arith) (lt-ltb _ _ w.if-marks-v-gt0.true) w.c-is | else-marks-v-gt0 w ↦ count-skips r.1 (omega arith) (le-ltb _ _ w.if-marks-v-gt0.false) w.c-is ],
    )

pub shape_of-numbers : goal.shape_of-numbers
shape_of-numbers c = c.loop-v.invariant.0.kept

pub returns : goal.returns
returns c = fill_ends c.loop-v.invariant.0 (omega arith)
