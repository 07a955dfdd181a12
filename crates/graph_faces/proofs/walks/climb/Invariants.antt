-- `graph_faces::walks::climb` meets its contract. Assumes nothing.
use Rattle.std.specs.Prelude.{◌-◌}
use mathlib.Core.Path.{◌≡◌}
use Rattle.seq.specs.Seq.{true}
use Rattle.graph_faces.specs.Climbs.{Climbing}
use Rattle.graph_faces.proofs.walks.climb.Given as goal

abbrev pub invariant-loop-k : goal.invariant-loop-k
invariant-loop-k l = (l.rising ≡ true) × Climbing l.origins l.k l.last
