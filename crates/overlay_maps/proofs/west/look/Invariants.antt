-- `overlay_maps::west::look` meets its contract. Assumes nothing.
use Rattle.std.specs.Prelude.{◌-◌}
use Rattle.seq.specs.Loops.Picking.{Picking}
use Rattle.plane.specs.Values.{pt_of, vec_of}
use Rattle.graph.specs.Look.{candidate_at, nearer_at}
use Rattle.overlay_maps.proofs.west.look.Given as goal

abbrev pub invariant-loop-k : goal.invariant-loop-k
invariant-loop-k l = Picking (candidate_at l.m.points.now l.m.origins.now l.m.carriers.now (pt_of l.p) (vec_of l.d)) (nearer_at l.m.carriers.now (pt_of l.p)) l.m.edges l.r l.k
