-- `map_check::parts::lay_carriers` meets its contract: below the counter the rows are the carriers, and the other cells as they were. Assumes nothing.
use Rattle.std.specs.Prelude.{◌-◌}
use Rattle.seq.specs.Loops.Storing.{Laying}
use Rattle.map_check.specs.Parts.{carrier_row_by}
use Rattle.map_check.proofs.parts.lay_carriers.Given as goal

abbrev pub invariant-loop-k : goal.invariant-loop-k
invariant-loop-k l = Laying 4 (carrier_row_by l.points l.origins) l.e l.initial.carriers l.carriers l.k
