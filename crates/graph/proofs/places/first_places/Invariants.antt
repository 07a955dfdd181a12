-- `graph::places::first_places` meets its contract. Assumes nothing.
use Rattle.seq.specs.Seq.{get_or}
use Rattle.seq.specs.Loops.Placing.{Placing}
use Rattle.graph.proofs.places.first_places.Given as goal

abbrev pub invariant-loop-i : goal.invariant-loop-i
invariant-loop-i l = Placing (λ k. get_or l.xs k 0) l.m l.initial.out l.out l.i
