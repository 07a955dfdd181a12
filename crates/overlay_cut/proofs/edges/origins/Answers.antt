-- `overlay_cut::edges::origins` meets its contract. Assumes nothing.
use mathlib.Core.Path.{refl}
use lib.ListN.{length-set}
use Rattle.seq.specs.Loops.Storing.{lay_starts, lay_ends}
use Rattle.overlay_cut.specs.Laws.NetLaws.{ends_turns}
use borrow.Author.Rules.{rules}
use native.Mathlib.Omega.{arith}
use Rattle.overlay_cut.proofs.edges.origins.Goals as goal
use Rattle.overlay_cut.proofs.edges.origins.Goals.{At-loop-k, Start}

pub loop-k-preserved : goal.loop-k-preserved
loop-k-preserved c =
    ends_turns c.args.pieces.now c.loop-k.invariant (search rules)

pub loop-k-init : goal.loop-k-init
loop-k-init c = lay_starts c.requires.fact_2

pub bounds-out-half-in-loop-k : goal.bounds-out-half-in-loop-k
bounds-out-half-in-loop-k c = simp length-set (omega arith)

pub returns : goal.returns
returns c = lay_ends c.loop-k.invariant (λ k. refl) (search rules)
