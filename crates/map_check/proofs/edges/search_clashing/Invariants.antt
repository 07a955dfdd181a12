-- `map_check::edges::search_clashing` meets its contract: nothing below the counter has been found. Assumes nothing.
use Rattle.std.specs.Prelude.{◌-◌}
use Rattle.map_check.specs.Later.{later_clashing}
use Rattle.seq.specs.Loops.Searching.{Searching}
use Rattle.map_check.proofs.edges.search_clashing.Given as goal

abbrev pub invariant-loop-k : goal.invariant-loop-k
invariant-loop-k l = Searching (later_clashing l.carriers l.e) l.e l.k
