-- `mend::packed::edge_keys` meets its contract: below the counter the cells are those of the ends, and the other cells as they were. Assumes nothing.
use Rattle.std.specs.Prelude.{◌-◌}
use mathlib.Core.Path.{◌∙◌}
use native.Mathlib.Omega.{arith}
use borrow.Author.Rules.{rules}
use Rattle.seq.specs.Loops.Filling.{Filling, fill_starts, fill_turns, fill_ends}
use Rattle.mend.specs.Keys.{pair_key, edge_key}
use Rattle.mend.proofs.packed.edge_keys.Goals as goal

pub offset_bounds-keys-i : goal.offset_bounds-keys-i
offset_bounds-keys-i c =
    omega (arith, c.loop-k.invariant.room, c.loop-k.invariant.kept)

pub bounds-keys-i : goal.bounds-keys-i
bounds-keys-i c =
    omega (arith, c.loop-k.invariant.room, c.loop-k.invariant.kept)

pub loop-k-preserved : goal.loop-k-preserved
loop-k-preserved c =
    fill_turns c.loop-k.invariant (omega arith) (c.pair_key.ensures ∙ (λ i. pair_key (c.from_now.ensures i) (c.to_now.ensures i)))

pub loop-k-init : goal.loop-k-init
loop-k-init c = fill_starts (search rules)

pub shape_of-keys : goal.shape_of-keys
shape_of-keys c = c.loop-k.invariant.kept

pub returns : goal.returns
returns c = fill_ends c.loop-k.invariant (omega arith)
