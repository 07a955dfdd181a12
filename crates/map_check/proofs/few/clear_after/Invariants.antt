-- `map_check::few::clear_after` meets its contract: edge i clashes with none that comes after it and below the counter. Assumes nothing.
use Prim.Native.Nat.{◌-◌}
use Rattle.graph.specs.Flat.{carrier_at}
use Rattle.map_check.specs.Pass.{ClearAfter}
use Rattle.map_check.proofs.few.clear_after.Given as goal

abbrev pub invariant-loop-j : goal.invariant-loop-j
invariant-loop-j l = ClearAfter (carrier_at l.carriers) l.j l.i
