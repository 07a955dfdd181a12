-- `mend::packed::corner_keys` meets its contract: below the counter the cells are those of the corners, and the other cells as they were. Assumes nothing.
use Rattle.std.specs.Prelude.{◌-◌}
use native.Mathlib.Omega.{arith}
use borrow.Author.Rules.{rules}
use Rattle.seq.specs.Loops.Filling.{Filling, fill_starts, fill_turns, fill_ends}
use Rattle.mend.specs.Keys.{corner_key}
use Rattle.mend.proofs.packed.corner_keys.Given as goal

abbrev pub invariant-loop-v : goal.invariant-loop-v
invariant-loop-v l = Filling (corner_key l.points) l.n l.initial.keys l.keys l.v
