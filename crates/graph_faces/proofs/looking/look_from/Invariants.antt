-- `graph_faces::looking::look_from` meets its contract. Assumes nothing.
use Rattle.std.specs.Prelude.{◌-◌}
use Rattle.seq.specs.Loops.Picking.{Picking}
use Rattle.paper.specs.Plane.{nowhere}
use Rattle.plane.specs.Values.{pt_of}
use Rattle.graph.specs.Look.{candidate_at, nearer_at}
use Rattle.graph_faces.proofs.looking.look_from.Given as goal

abbrev pub invariant-loop-k : goal.invariant-loop-k
invariant-loop-k l = Picking (candidate_at l.g.points.now l.g.origins.now l.g.carriers.now (pt_of l.p) nowhere) (nearer_at l.g.carriers.now (pt_of l.p)) l.g.edges l.r l.k
