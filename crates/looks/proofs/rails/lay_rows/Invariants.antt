-- `looks::rails::lay_rows` meets its contract. Assumes nothing.
use mathlib.Core.Path.{refl, ap}
use Prim.Native.Nat.{◌-◌}
use native.Mathlib.Omega.{arith}
use Rattle.seq.specs.Loops.Storing.{Laying, lay_starts, lay_turns, lay_ends}
use Rattle.graph.specs.Flat.{carrier_at}
use Rattle.looks.specs.Ordering.{the_edge_in}
use Rattle.looks.specs.Rails.{seg_row}
use borrow.Author.Rules.{rules}
use Rattle.looks.proofs.rails.lay_rows.Given as goal

abbrev pub invariant-loop-i : goal.invariant-loop-i
invariant-loop-i l = Laying 4 (λ j. seg_row (carrier_at l.carriers (the_edge_in l.order j))) l.e l.initial.rails l.rails l.i
