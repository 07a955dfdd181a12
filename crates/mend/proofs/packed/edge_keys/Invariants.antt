-- `mend::packed::edge_keys` meets its contract: below the counter the cells are those of the ends, and the other cells as they were. Assumes nothing.
use Rattle.std.specs.Prelude.{◌-◌}
use mathlib.Core.Path.{◌∙◌}
use native.Mathlib.Omega.{arith}
use borrow.Author.Rules.{rules}
use Rattle.seq.specs.Loops.Filling.{Filling, fill_starts, fill_turns, fill_ends}
use Rattle.mend.specs.Keys.{pair_key, edge_key}
use Rattle.mend.proofs.packed.edge_keys.Given as goal

abbrev pub invariant-loop-k : goal.invariant-loop-k
invariant-loop-k l = Filling (edge_key l.ends) l.e l.initial.keys l.keys l.k
