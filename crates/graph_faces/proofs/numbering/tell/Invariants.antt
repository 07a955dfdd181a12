-- `graph_faces::numbering::tell` meets its contract. Assumes nothing.
use Rattle.std.specs.Prelude.{◌-◌, ◌*◌}
use Rattle.seq.specs.Loops.Selecting.{Selecting}
use Rattle.graph_faces.specs.Kinds.{outer_lead, known_by}
use Rattle.graph_faces.specs.Laws.Telling.{Telling}
use Rattle.graph_faces.proofs.numbering.tell.Given as goal

abbrev pub invariant-loop-h : goal.invariant-loop-h
invariant-loop-h l =
    Telling (known_by l.g.points.now l.g.origins.now l.g.carriers.now l.g.vertices l.g.edges l.lead l.top) l.lead (2 * l.g.edges) l.initial.known l.known l.h × Selecting (outer_lead l.lead l.top) (2 * l.g.edges) l.initial.leaders l.leaders l.c l.h
