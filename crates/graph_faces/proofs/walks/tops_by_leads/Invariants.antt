-- `graph_faces::walks::tops_by_leads` meets its contract. Assumes nothing.
use Rattle.std.specs.Prelude.{◌-◌}
use Rattle.seq.specs.Loops.Filling.{Filling}
use Rattle.graph_faces.specs.Climbs.{top_by_lead}
use Rattle.graph_faces.proofs.walks.tops_by_leads.Given as goal

abbrev pub invariant-loop-h : goal.invariant-loop-h
invariant-loop-h l = Filling (top_by_lead l.origins l.lead l.greatest) l.m l.initial.top l.top l.h
