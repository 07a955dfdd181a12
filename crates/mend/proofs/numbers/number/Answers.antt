-- `mend::numbers::number` meets its contract: before a turn the cells below the counter are the counts. Assumes nothing.
use Rattle.std.specs.Prelude.{◌-◌}
use mathlib.Core.Path.{sym, ◌∙◌}
use native.Mathlib.Omega.{arith}
use borrow.Author.Rules.{rules}
use Rattle.seq.specs.Loops.Filling.{Filling, fill_starts, fill_turns, fill_ends}
use Rattle.seq.specs.Loops.Selecting.{Counting, count_starts, count_most, count-takes, count-skips, count_ends}
use Rattle.seq.specs.Seq.{count}
use Rattle.mend.specs.Steps.{step_is}
use Rattle.mend.proofs.numbers.number.Goals as goal
use Rattle.mend.proofs.numbers.number.Goals.{else-is_step, then-is_step}

pub bounds-out-i : goal.bounds-out-i
bounds-out-i c =
    omega (arith, c.loop-v.invariant.0.room, c.loop-v.invariant.0.kept)

pub offset_bounds-out-i : goal.offset_bounds-out-i
offset_bounds-out-i c =
    omega (arith, c.loop-v.invariant.0.room, c.loop-v.invariant.0.kept)

pub overflow_add-c : goal.overflow_add-c
overflow_add-c c =
    omega (arith, count_most c.loop-v.invariant.1)

pub loop-v-preserved : goal.loop-v-preserved
loop-v-preserved c =
    let l = c.loop-v in
    let b = c.loop-v-test.true in
    let q = sym c.is_step.ensures in
    (fill_turns l.invariant.0 b l.invariant.1.is, elim c.if-is_step.branch [ then-is_step w ↦ count-takes l.invariant.1 b (q ∙ w.if-is_step.true) w.c-is | else-is_step w ↦ count-skips l.invariant.1 b (q ∙ w.if-is_step.false) w.c-is ])

pub returns : goal.returns
returns c = record { out = fill_ends c.loop-v.invariant.0 (omega arith); is = count_ends c.loop-v.invariant.1 (omega arith) }

pub loop-v-init : goal.loop-v-init
loop-v-init c = (fill_starts (search rules), count_starts)

pub shape_of-out : goal.shape_of-out
shape_of-out c = c.loop-v.invariant.0.kept
