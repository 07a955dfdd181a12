-- `graph_faces::numbering::settle` meets its contract. Assumes nothing.
use Rattle.std.specs.Prelude.{◌-◌}
use Rattle.seq.specs.Loops.Filling.{Filling}
use Rattle.seq.specs.Loops.Tallying.{Tallying}
use Rattle.graph_faces.specs.Kinds.{hole_lead, face_from}
use Rattle.graph_faces.proofs.numbering.settle.Given as goal

abbrev pub invariant-loop-h : goal.invariant-loop-h
invariant-loop-h l =
    Filling (face_from l.lead l.top l.known l.n) l.m l.initial.faces l.faces l.h × Tallying (hole_lead l.lead l.top) (face_from l.lead l.top l.known l.n) l.m l.f l.initial.inside l.inside l.h
