-- `mend::steps::without_edges` meets its contract: below the counter the cells are their steps, and the other cells as they were. Assumes nothing.
use Rattle.std.specs.Prelude.{◌-◌}
use native.Mathlib.Omega.{arith}
use borrow.Author.Rules.{rules}
use Rattle.seq.specs.Loops.Filling.{Filling, fill_starts, fill_turns, fill_ends}
use Rattle.seq.specs.Seq.{cond}
use Rattle.mend.specs.Steps.{merged_in}
use Rattle.mend.proofs.steps.without_edges.Goals as goal

pub offset_bounds-steps-i : goal.offset_bounds-steps-i
offset_bounds-steps-i c =
    omega (arith, c.loop-v.invariant.room, c.loop-v.invariant.kept)

pub bounds-steps-i : goal.bounds-steps-i
bounds-steps-i c =
    omega (arith, c.loop-v.invariant.room, c.loop-v.invariant.kept)

pub loop-v-preserved : goal.loop-v-preserved
loop-v-preserved c =
    fill_turns c.loop-v.invariant (omega arith) c.without_edge.ensures

pub loop-v-init : goal.loop-v-init
loop-v-init c = fill_starts (search rules)

pub shape_of-steps : goal.shape_of-steps
shape_of-steps c = c.loop-v.invariant.kept

pub returns : goal.returns
returns c = fill_ends c.loop-v.invariant (omega arith)
