-- `overlay_cut::edges::carriers` meets its contract. Assumes nothing.
use mathlib.Core.Path.{refl, ap}
use Rattle.overlay_cut.specs.Net.{seg_row}
use borrow.Author.Rules.{rules}
use native.Mathlib.Omega.{arith}
use Rattle.seq.specs.Loops.Storing.{lay_starts, lay_turns, lay_ends}
use Rattle.overlay_cut.proofs.edges.carriers.Goals as goal
use Rattle.overlay_cut.proofs.edges.carriers.Goals.{After-carrier_of, At-loop-k}

pub loop-k-preserved : goal.loop-k-preserved
loop-k-preserved c =
    lay_turns c.loop-k.invariant (λ j. refl) (omega arith) c.store_carrier.ensures (ap seg_row c.carrier_of.ensures.is)

pub loop-k-init : goal.loop-k-init
loop-k-init c = lay_starts c.requires.fact_3

pub returns : goal.returns
returns c = lay_ends c.loop-k.invariant (λ k. refl) (search rules)
