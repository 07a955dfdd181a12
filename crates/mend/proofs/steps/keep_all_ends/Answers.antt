-- `mend::steps::keep_all_ends` meets its contract: the ends of the edges below the counter that are kept are 0. Assumes nothing.
use Rattle.std.specs.Prelude.{◌+◌, ◌*◌, ◌-◌}
use mathlib.Core.Path.{sym, ◌∙◌}
use native.Mathlib.Omega.{arith}
use Rattle.seq.specs.Seq.{get_or}
use Rattle.mend.specs.Steps.{step_is}
use Rattle.mend.proofs.MarkLaws.{Marking, mark_starts, mark-takes, mark-skips, mark_ends}
use Rattle.mend.proofs.steps.keep_all_ends.Goals as goal
use Rattle.mend.proofs.steps.keep_all_ends.Goals.{else-is_step, then-is_step}

pub loop-k-preserved : goal.loop-k-preserved
loop-k-preserved c =
    let r = c.loop-k.invariant in
    let b = c.loop-k-test.true in
    let q = sym c.is_step.ensures in
    elim c.if-is_step.branch [ then-is_step w ↦ mark-takes r b (q ∙ w.if-is_step.true) (w.steps-is ∙ w.keep_ends.ensures) | else-is_step w ↦ mark-skips r b (q ∙ w.if-is_step.false) w.steps-is ]

pub loop-k-init : goal.loop-k-init
loop-k-init c = mark_starts

pub shape_of-steps : goal.shape_of-steps
shape_of-steps c = c.loop-k.invariant.kept

pub returns : goal.returns
returns c = mark_ends c.loop-k.invariant (omega arith)
