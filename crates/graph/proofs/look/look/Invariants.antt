-- `graph::look::look` meets its contract. Assumes nothing.
use Rattle.seq.specs.Loops.Picking.{Picking}
use Rattle.plane.specs.Values.{pt_of, vec_of}
use Rattle.graph.specs.Look.{candidate_at, nearer_at}
use Rattle.graph.proofs.look.look.Given as goal

abbrev pub invariant-loop-k : goal.invariant-loop-k
invariant-loop-k l = Picking (candidate_at l.g.points.now l.g.origins.now l.g.carriers.now (pt_of l.p) (vec_of l.d)) (nearer_at l.g.carriers.now (pt_of l.p)) l.e l.r l.k
