-- `graph_faces::walks::tops` meets its contract. Assumes nothing.
use mathlib.Core.Path.{refl}
use Prim.Native.Nat.{◌<◌}
use native.Mathlib.Omega.{arith}
use borrow.Author.Rules.{rules}
use Rattle.seq.specs.Seq.{ℕ, get_or, length}
use Rattle.seq.specs.Loops.Filling.{fill_starts, fill_turns, fill_ends}
use Rattle.graph_faces.proofs.walks.tops.Goals as goal
use Rattle.graph_faces.proofs.walks.tops.Goals.{In-loop-h, Start}

-- the leader, the lowest of its walk, and where that starts
module _ (c : In-loop-h) where
  abbrev low : ℕ
  low = get_or c.args.low.now (get_or c.args.lead.now c.loop-h.h 0) 0

  lead-fits : get_or c.args.lead.now c.loop-h.h 0 < length c.args.low.now
  lead-fits = omega (arith, c.requires.fact_1.named c.loop-h.h c.loop-h-test.true)

  low_fits : low < length c.args.origins.now
  low_fits = omega (arith, c.requires.fact_3 c.loop-h.h c.loop-h-test.true, c.requires.fact_4.long)

  start_fits : get_or c.args.origins.now low 0 < length c.args.greatest.now
  start_fits = omega (arith, c.requires.fact_4.named low (c.requires.fact_3 c.loop-h.h c.loop-h-test.true))

pub loop-h-preserved : goal.loop-h-preserved
loop-h-preserved c =
    fill_turns c.loop-h.invariant c.loop-h-test.true refl

pub loop-h-init : goal.loop-h-init
loop-h-init c = fill_starts c.requires.fact_5
