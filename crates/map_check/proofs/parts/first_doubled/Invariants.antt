-- `map_check::parts::first_doubled` meets its contract: nothing below the counter has been found. Assumes nothing.
use Rattle.std.specs.Prelude.{◌-◌}
use Rattle.seq.specs.Loops.Searching.{Searching}
use Rattle.map_check.specs.Parts.{doubled_at}
use Rattle.map_check.proofs.parts.first_doubled.Given as goal

abbrev pub invariant-loop-higher : goal.invariant-loop-higher
invariant-loop-higher l = Searching (doubled_at l.points) l.n l.higher
