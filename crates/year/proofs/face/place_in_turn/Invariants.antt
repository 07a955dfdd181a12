-- `year::face::place_in_turn` meets its contract: every row that the loop has passed is earlier. Assumes nothing.
use Rattle.seq.specs.Seq.{not}
use Rattle.seq.specs.PairOrder.{pair_before}
use Rattle.seq.specs.Loops.Searching.{Searching}
use Rattle.year.specs.TallyRows.{pair_at}
use Rattle.year.proofs.face.place_in_turn.Given as goal

abbrev pub invariant-loop-k : goal.invariant-loop-k
invariant-loop-k l = Searching (λ i. not (pair_before (pair_at l.rows i) (l.zone, l.block))) l.n l.k
