-- `map_check::few::pairs_clear` meets its contract: no edge below the counter clashes with a later one. Assumes nothing.
use Prim.Native.Nat.{◌-◌, ◌<◌}
use Rattle.seq.specs.Seq.{ℕ}
use Rattle.graph.specs.Flat.{carrier_at}
use Rattle.map_check.specs.Pass.{ClearAfter}
use Rattle.map_check.proofs.few.pairs_clear.Given as goal

abbrev pub invariant-loop-i : goal.invariant-loop-i
invariant-loop-i l = (k : ℕ) → k < l.i → ClearAfter (carrier_at l.carriers) l.e k
