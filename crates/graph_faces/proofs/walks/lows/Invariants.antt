-- `graph_faces::walks::lows` meets its contract. Assumes nothing.
use Rattle.std.specs.Prelude.{◌-◌}
use Rattle.seq.specs.Seq.{get_or}
use Rattle.seq.specs.Loops.Choosing.{Choosing}
use Rattle.paper.specs.Limits.{absent}
use Rattle.graph_faces.specs.Turns.{earlier_at}
use Rattle.graph_faces.proofs.walks.lows.Given as goal

abbrev pub invariant-loop-h : goal.invariant-loop-h
invariant-loop-h l = Choosing (λ k. get_or l.lead k 0) (earlier_at l.points l.origins) absent l.m l.m l.initial.out l.out l.h
