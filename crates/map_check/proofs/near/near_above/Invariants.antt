-- `map_check::near::near_above` meets its contract: of the cells below the counter each is listed, or its edge does not clash. Assumes nothing.
use mathlib.Core.Path.{◌≡◌}
use Prim.Native.Nat.{◌-◌, ◌≤◌}
use lib.ListN.{length}
use Rattle.map_check.specs.Near.{Picked}
use Rattle.map_check.proofs.near.near_above.Given as goal

abbrev pub invariant-loop-j : goal.invariant-loop-j
invariant-loop-j l = (length l.near ≡ length l.initial.near) × (l.j ≤ l.o.count) × Picked l.o.carriers.now l.o.cells.now l.o.count l.i l.j l.near l.c
