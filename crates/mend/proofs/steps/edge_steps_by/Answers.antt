-- `mend::steps::edge_steps_by` meets its contract: below the counter the cells are their steps, and the other cells as they were. Assumes nothing.
use Rattle.std.specs.Prelude.{◌-◌}
use native.Mathlib.Omega.{arith}
use borrow.Author.Rules.{rules}
use Rattle.seq.specs.Loops.Filling.{Filling, fill_starts, fill_turns, fill_ends}
use Rattle.seq.specs.Seq.{the_some_below}
use Rattle.mend.specs.Keys.{like_in}
use Rattle.mend.specs.Steps.{shrunk_in, edge_step}
use Rattle.mend.proofs.steps.edge_steps_by.Goals as goal

pub offset_bounds-steps-i : goal.offset_bounds-steps-i
offset_bounds-steps-i c =
    omega (arith, c.loop-k.invariant.room, c.loop-k.invariant.kept)

pub bounds-steps-i : goal.bounds-steps-i
bounds-steps-i c =
    omega (arith, c.loop-k.invariant.room, c.loop-k.invariant.kept)

pub loop-k-preserved : goal.loop-k-preserved
loop-k-preserved c =
    fill_turns c.loop-k.invariant (omega arith) c.edge_step.ensures

pub loop-k-init : goal.loop-k-init
loop-k-init c = fill_starts (search rules)

pub shape_of-steps : goal.shape_of-steps
shape_of-steps c = c.loop-k.invariant.kept

pub returns : goal.returns
returns c = fill_ends c.loop-k.invariant (omega arith)
