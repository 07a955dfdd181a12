-- `mend::numbers::count_kept` meets its contract: before a turn what is counted stands below the counter. Assumes nothing.
use Rattle.std.specs.Prelude.{◌-◌}
use mathlib.Core.Path.{sym, ◌∙◌}
use native.Mathlib.Omega.{arith}
use Rattle.seq.specs.Loops.Selecting.{Counting, count_starts, count_most, count-takes, count-skips, count_ends}
use Rattle.mend.specs.Steps.{step_is}
use Rattle.mend.proofs.numbers.count_kept.Goals as goal
use Rattle.mend.proofs.numbers.count_kept.Goals.{else-is_step, then-is_step}

pub overflow_add-c : goal.overflow_add-c
overflow_add-c c =
    omega (arith, count_most c.loop-k.invariant)

pub loop-k-preserved : goal.loop-k-preserved
loop-k-preserved c =
    let l = c.loop-k in
    let b = c.loop-k-test.true in
    let q = sym c.is_step.ensures in
    elim c.if-is_step.branch [ then-is_step w ↦ count-takes l.invariant b (q ∙ w.if-is_step.true) w.c-is | else-is_step w ↦ count-skips l.invariant b (q ∙ w.if-is_step.false) w.c-is ]

pub loop-k-init : goal.loop-k-init
loop-k-init c = count_starts

pub returns : goal.returns
returns c = count_ends c.loop-k.invariant (omega arith)
