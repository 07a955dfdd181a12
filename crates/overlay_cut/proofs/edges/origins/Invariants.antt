-- `overlay_cut::edges::origins` meets its contract. Assumes nothing.
use Rattle.seq.specs.Loops.Storing.{Laying}
use Rattle.overlay_cut.specs.Net.{ends_of}
use Rattle.overlay_cut.proofs.edges.origins.Given as goal

abbrev pub invariant-loop-k : goal.invariant-loop-k
invariant-loop-k l = Laying 2 (ends_of l.pieces) l.e l.initial.out l.out l.k
