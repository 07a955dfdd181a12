-- `mend::merge::merge_by` meets its contract: below the counter the cells are the lowest vertices, and the other cells as they were. Assumes nothing.
use Rattle.std.specs.Prelude.{◌-◌}
use native.Mathlib.Omega.{arith}
use borrow.Author.Rules.{rules}
use Rattle.seq.specs.Loops.Filling.{Filling, fill_starts, fill_turns, fill_ends}
use Rattle.seq.specs.Seq.{least}
use Rattle.mend.specs.Keys.{like_in}
use Rattle.mend.proofs.merge.merge_by.Goals as goal

pub offset_bounds-into-i : goal.offset_bounds-into-i
offset_bounds-into-i c =
    omega (arith, c.loop-v.invariant.room, c.loop-v.invariant.kept)

pub bounds-into-i : goal.bounds-into-i
bounds-into-i c =
    omega (arith, c.loop-v.invariant.room, c.loop-v.invariant.kept)

pub loop-v-preserved : goal.loop-v-preserved
loop-v-preserved c =
    fill_turns c.loop-v.invariant (omega arith) c.lowest.ensures

pub loop-v-init : goal.loop-v-init
loop-v-init c = fill_starts (search rules)

pub shape_of-into : goal.shape_of-into
shape_of-into c = c.loop-v.invariant.kept

pub returns : goal.returns
returns c = fill_ends c.loop-v.invariant (omega arith)
