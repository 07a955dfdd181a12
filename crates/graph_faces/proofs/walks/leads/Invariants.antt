-- `graph_faces::walks::leads` meets its contract. Assumes nothing.
use Rattle.std.specs.Prelude.{◌-◌}
use Rattle.seq.specs.Seq.{take}
use Rattle.graph_faces.specs.Lead.{Leading}
use Rattle.graph_faces.proofs.walks.leads.Given as goal

abbrev pub invariant-loop-h : goal.invariant-loop-h
invariant-loop-h l = Leading (take l.m l.next) l.initial.lead l.lead l.h
