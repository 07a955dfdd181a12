-- `looks::rails::lay_rows` meets its contract. Assumes nothing.
use mathlib.Core.Path.{refl, ap}
use Prim.Native.Nat.{◌-◌}
use native.Mathlib.Omega.{arith}
use Rattle.seq.specs.Loops.Storing.{Laying, lay_starts, lay_turns, lay_ends}
use Rattle.graph.specs.Flat.{carrier_at}
use Rattle.looks.specs.Ordering.{the_edge_in}
use Rattle.looks.specs.Rails.{seg_row}
use borrow.Author.Rules.{rules}
use Rattle.looks.proofs.rails.lay_rows.Goals as goal

pub loop-i-preserved : goal.loop-i-preserved
loop-i-preserved c =
    lay_turns c.loop-i.invariant (λ k. refl) (search rules) c.store_carrier.ensures (ap seg_row c.carrier_at-s.ensures.is)

pub returns : goal.returns
returns c = lay_ends c.loop-i.invariant (λ k. refl) (search rules)
