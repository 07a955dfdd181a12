-- `map_check::edges::first_clash` meets its contract: nothing below the counter has been found. Assumes nothing.
use Rattle.std.specs.Prelude.{◌-◌}
use Prim.Native.Nat.{◌<◌}
use Rattle.map_check.specs.Later.{later_at}
use Rattle.seq.specs.Loops.Searching.{Searching}
use Rattle.map_check.proofs.edges.first_clash.Given as goal

abbrev pub invariant-loop-j : goal.invariant-loop-j
invariant-loop-j l = (l.k < l.j) × Searching (later_at l.carriers l.k) l.e l.j
