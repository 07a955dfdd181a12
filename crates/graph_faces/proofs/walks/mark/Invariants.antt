-- `graph_faces::walks::mark` meets its contract. Assumes nothing.
use Rattle.std.specs.Prelude.{◌-◌}
use Rattle.seq.specs.Seq.{take}
use Rattle.graph_faces.specs.Lead.{Marking}
use Rattle.graph_faces.proofs.walks.mark.Given as goal

abbrev pub invariant-loop-step : goal.invariant-loop-step
invariant-loop-step l = Marking (take l.m l.next) l.h l.initial.lead l.lead l.x (l.m - l._step)
