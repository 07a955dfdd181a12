-- `mend::bytes::put_edges` meets its contract: what is stored are the rows of those below the counter that are kept. Assumes nothing.
use Rattle.std.specs.Prelude.{◌-◌}
use mathlib.Core.Path.{refl, sym, ◌∙◌}
use native.Mathlib.Omega.{arith}
use borrow.Author.Rules.{rules}
use Rattle.seq.specs.Count.{count_below}
use Rattle.seq.specs.Seq.{gather}
use Rattle.paper.specs.Bytes.{le}
use Rattle.mend.specs.Steps.{step_is}
use Rattle.mend.specs.Stored.{row_in}
use Rattle.mend.proofs.AppendLaws.{Appending, append_starts, append_takes, append_leaves, append_ends}
use Rattle.mend.proofs.bytes.put_edges.Goals as goal
use Rattle.mend.proofs.bytes.put_edges.Goals.{else-is_step, then-is_step}

pub put_edge-requires : goal.put_edge-requires
put_edge-requires c =
    let r = c.loop-k.invariant in
    let more = count_below (step_is c.args.t.pieces.now 0) c.args.t.e c.loop-k.k (omega arith) (sym c.is_step.ensures ∙ c.if-is_step.true) in
    omega (arith, r.place, r.room, r.kept, more)

pub overflow_add-at : goal.overflow_add-at
overflow_add-at c =
    let r = c.loop-k.invariant in
    let more = count_below (step_is c.args.t.pieces.now 0) c.args.t.e c.loop-k.k (omega arith) (sym c.is_step.ensures ∙ c.if-is_step.true) in
    omega (arith, r.place, r.room, r.kept, more)

pub loop-k-preserved : goal.loop-k-preserved
loop-k-preserved c =
    let r = c.loop-k.invariant in
    let b = c.loop-k-test.true in
    let q = sym c.is_step.ensures in
    elim c.if-is_step.branch [ then-is_step w ↦ append_takes r (λ j. refl) b (q ∙ w.if-is_step.true) (w.out-is ∙ w.put_edge.ensures) w.at-is | else-is_step w ↦ append_leaves r b (q ∙ w.if-is_step.false) w.out-is w.at-is ]

pub loop-k-init : goal.loop-k-init
loop-k-init c = append_starts (search rules)

pub shape_of-out : goal.shape_of-out
shape_of-out c = c.loop-k.invariant.kept

pub returns : goal.returns
returns c = append_ends c.loop-k.invariant (omega arith)
