-- `year::face::place_by_halves` meets its contract: all rows below `low` are earlier, and that at `high` is not. Assumes nothing.
use Prim.Native.Nat.{◌-◌}
use Rattle.seq.specs.Seq.{Bool, not, List, ℕ}
use Rattle.seq.specs.PairOrder.{pair_before}
use Rattle.seq.specs.Halves.{Halving}
use Rattle.year.specs.TallyRows.{pair_at}
use Rattle.year.proofs.face.place_by_halves.Given as goal

abbrev pub reached : List ℕ → ℕ → ℕ → ℕ → Bool
reached rows zone block k = not (pair_before (pair_at rows k) (zone, block))

abbrev pub invariant-loop-low : goal.invariant-loop-low
invariant-loop-low l = Halving (reached l.rows l.zone l.block) l.n l.low l.high

abbrev pub decreases-loop-low : goal.decreases-loop-low
decreases-loop-low l = l.high - l.low
