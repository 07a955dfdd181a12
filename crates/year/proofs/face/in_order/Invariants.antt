-- `year::face::in_order` meets its contract: every row that the loop has passed comes before the next. Assumes nothing.
use Prim.Native.Nat.{◌≤◌}
use Rattle.year.specs.Risen.{Nexts}
use Rattle.year.proofs.face.in_order.Given as goal

abbrev pub invariant-loop-k : goal.invariant-loop-k
invariant-loop-k l = (l.k ≤ l.last) × Nexts l.rows l.k
