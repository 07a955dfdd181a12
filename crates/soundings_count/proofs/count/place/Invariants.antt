-- `soundings_count::count::place` meets its contract: all rows below `low` are less, and that at `high` is not. Assumes nothing.
use Rattle.std.specs.Prelude.{◌∷◌}
use Prim.Native.Nat.{◌-◌}
use Rattle.seq.specs.Halves.{Halving}
use Rattle.seq.specs.Seq.{not, []}
use Rattle.paper.specs.Soundings.{less_list}
use Rattle.soundings_count.specs.Entries.{the_labels_at}
use Rattle.soundings_count.proofs.count.place.Given as goal

abbrev pub invariant-loop-low : goal.invariant-loop-low
invariant-loop-low l = Halving (λ k. not (less_list (the_labels_at l.labels k) (l.a ∷ l.b ∷ []))) l.n l.low l.high

abbrev pub decreases-loop-low : goal.decreases-loop-low
decreases-loop-low l = l.high - l.low
