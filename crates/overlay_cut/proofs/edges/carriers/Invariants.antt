-- `overlay_cut::edges::carriers` meets its contract. Assumes nothing.
use Rattle.overlay_cut.specs.Net.{carrier_in, seg_row}
use Rattle.seq.specs.Loops.Storing.{Laying}
use Rattle.overlay_cut.proofs.edges.carriers.Given as goal

abbrev pub invariant-loop-k : goal.invariant-loop-k
invariant-loop-k l = Laying 4 (λ j. seg_row (carrier_in l.pieces l.carriers l.starts j)) l.e l.initial.out l.out l.k
