-- `graph::rising::rise` meets its contract. Assumes nothing.
use Prim.Native.Nat.{◌<◌}
use Rattle.graph.specs.Rising.{Rises}
use Rattle.graph.proofs.rising.rise.Given as goal

abbrev pub invariant-loop-v : goal.invariant-loop-v
invariant-loop-v l = (0 < l.v) × Rises l.points l.v
