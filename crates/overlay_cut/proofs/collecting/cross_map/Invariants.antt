-- `overlay_cut::collecting::cross_map` meets its contract. Assumes nothing.
use Prim.Native.Nat.{◌+◌}
use Rattle.graph.specs.Flat.{carrier_at}
use Rattle.overlay_cut.specs.Crossed.{cross_row}
use Rattle.overlay_cut.specs.Collecting.{Gathering}
use Rattle.overlay_cut.proofs.collecting.cross_map.Given as goal

abbrev pub invariant-loop-k : goal.invariant-loop-k
invariant-loop-k l = Gathering l.room (λ j. cross_row l.carriers l.from (carrier_at l.carriers (l.from + j))) l.e l.initial.points l.n l.points l.total l.k
