-- `mend::packed::corner_keys` meets its contract: below the counter the cells are those of the corners, and the other cells as they were. Assumes nothing.
use Rattle.std.specs.Prelude.{◌-◌}
use native.Mathlib.Omega.{arith}
use borrow.Author.Rules.{rules}
use Rattle.seq.specs.Loops.Filling.{Filling, fill_starts, fill_turns, fill_ends}
use Rattle.mend.specs.Keys.{corner_key}
use Rattle.mend.proofs.packed.corner_keys.Goals as goal

pub corner_key-requires : goal.corner_key-requires
corner_key-requires c =
    c.requires.0.near c.loop-v.v (omega arith)

pub offset_bounds-keys-i : goal.offset_bounds-keys-i
offset_bounds-keys-i c =
    omega (arith, c.loop-v.invariant.room, c.loop-v.invariant.kept)

pub bounds-keys-i : goal.bounds-keys-i
bounds-keys-i c =
    omega (arith, c.loop-v.invariant.room, c.loop-v.invariant.kept)

pub loop-v-preserved : goal.loop-v-preserved
loop-v-preserved c =
    fill_turns c.loop-v.invariant (omega arith) c.corner_key.ensures

pub loop-v-init : goal.loop-v-init
loop-v-init c = fill_starts (search rules)

pub shape_of-keys : goal.shape_of-keys
shape_of-keys c = c.loop-v.invariant.kept

pub returns : goal.returns
returns c = fill_ends c.loop-v.invariant (omega arith)
