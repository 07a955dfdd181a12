-- `map_check::near::all_above` meets its contract: no edge in a cell below the counter clashes with one in a later cell. Assumes nothing.
use mathlib.Core.Path.{◌≡◌}
use Prim.Native.Nat.{◌-◌, ◌<◌}
use lib.ListN.{length}
use Rattle.seq.specs.Seq.{ℕ}
use Rattle.map_check.specs.Pass.{ClearAbove}
use Rattle.map_check.proofs.near.all_above.Given as goal

abbrev pub invariant-loop-i : goal.invariant-loop-i
invariant-loop-i l = (length l.near ≡ length l.initial.near) × ((k : ℕ) → k < l.i → ClearAbove l.o.carriers.now l.o.cells.now l.o.count k)
