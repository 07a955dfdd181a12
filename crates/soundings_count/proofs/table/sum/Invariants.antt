-- `soundings_count::table::sum` meets its contract: before turn i the first i counts are summed. Assumes nothing.
use Rattle.soundings_count.specs.Handed.{Summing}
use Rattle.soundings_count.proofs.table.sum.Given as goal

abbrev pub invariant-loop-c : goal.invariant-loop-c
invariant-loop-c l = Summing l.counts l.n l.total l.c-index
