-- `graph_faces::walks::tops` meets its contract. Assumes nothing.
use Rattle.std.specs.Prelude.{◌-◌}
use Rattle.seq.specs.Loops.Filling.{Filling}
use Rattle.graph_faces.specs.Turns.{top_at}
use Rattle.graph_faces.proofs.walks.tops.Given as goal

abbrev pub invariant-loop-h : goal.invariant-loop-h
invariant-loop-h l = Filling (top_at l.origins l.lead l.low l.greatest) l.m l.initial.top l.top l.h
