-- `mend::bytes::put_corners` meets its contract: what is stored are the rows of those below the counter that are kept. Assumes nothing.
use Rattle.std.specs.Prelude.{◌-◌}
use mathlib.Core.Path.{sym, ◌∙◌}
use native.Mathlib.Omega.{arith}
use borrow.Author.Rules.{rules}
use Rattle.seq.specs.Count.{count_below}
use Rattle.paper.specs.Mend.{corner_bytes}
use Rattle.map_check.specs.Parts.{corner_in}
use Rattle.mend.specs.Steps.{step_is}
use Rattle.mend.proofs.ByteLaws.{corner_long}
use Rattle.mend.proofs.AppendLaws.{Appending, append_starts, append_takes, append_leaves, append_ends}
use Rattle.mend.proofs.bytes.put_corners.Goals as goal
use Rattle.mend.proofs.bytes.put_corners.Goals.{else-is_step, then-is_step}

pub put_corner-requires : goal.put_corner-requires
put_corner-requires c =
    let r = c.loop-v.invariant in
    let more = count_below (step_is c.args.steps.now 0) c.args.n c.loop-v.v (omega arith) (sym c.is_step.ensures ∙ c.if-is_step.true) in
    (c.requires.0.near c.loop-v.v (omega arith), omega (arith, r.place, r.room, r.kept, more))

pub overflow_add-at : goal.overflow_add-at
overflow_add-at c =
    let r = c.loop-v.invariant in
    let more = count_below (step_is c.args.steps.now 0) c.args.n c.loop-v.v (omega arith) (sym c.is_step.ensures ∙ c.if-is_step.true) in
    omega (arith, r.place, r.room, r.kept, more)

pub loop-v-preserved : goal.loop-v-preserved
loop-v-preserved c =
    let r = c.loop-v.invariant in
    let b = c.loop-v-test.true in
    let q = sym c.is_step.ensures in
    elim c.if-is_step.branch [ then-is_step w ↦ append_takes r (λ u. corner_long (corner_in c.args.points.now u)) b (q ∙ w.if-is_step.true) (w.out-is ∙ w.put_corner.ensures) w.at-is | else-is_step w ↦ append_leaves r b (q ∙ w.if-is_step.false) w.out-is w.at-is ]

pub loop-v-init : goal.loop-v-init
loop-v-init c = append_starts (search rules)

pub shape_of-out : goal.shape_of-out
shape_of-out c = c.loop-v.invariant.kept

pub returns : goal.returns
returns c = append_ends c.loop-v.invariant (omega arith)
