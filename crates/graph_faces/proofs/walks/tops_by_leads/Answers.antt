-- `graph_faces::walks::tops_by_leads` meets its contract. Assumes nothing.
use Rattle.std.specs.Prelude.{◌*◌, ◌/◌}
use mathlib.Core.Path.{refl}
use Prim.Native.Nat.{◌<◌}
use native.Mathlib.Omega.{arith}
use borrow.Author.Rules.{rules}
use Rattle.seq.specs.Seq.{ℕ, get_or, length}
use Rattle.seq.specs.Loops.Filling.{fill_starts, fill_turns, fill_ends}
use Rattle.graph_faces.proofs.walks.tops_by_leads.Goals as goal
use Rattle.graph_faces.proofs.walks.tops_by_leads.Goals.{In-loop-h, Start}

-- the first half-edge of the leader's edge, and where that starts
module _ (c : In-loop-h) where
  abbrev first : ℕ
  first = 2 * (get_or c.args.lead.now c.loop-h.h 0 / 2)

  lead_under : get_or c.args.lead.now c.loop-h.h 0 < c.args.m
  lead_under = c.requires.fact_1.named c.loop-h.h c.loop-h-test.true

  first_under : 2 * (get_or c.args.lead.now c.loop-h.h 0 / 2) < c.args.m
  first_under = omega (arith, lead_under)

  first_fits : 2 * (get_or c.args.lead.now c.loop-h.h 0 / 2) < length c.args.origins.now
  first_fits = omega (arith, first_under, c.requires.fact_3.long)

  start_fits : get_or c.args.origins.now first 0 < length c.args.greatest.now
  start_fits = c.requires.fact_3.named first first_under

pub loop-h-preserved : goal.loop-h-preserved
loop-h-preserved c =
    fill_turns c.loop-h.invariant c.loop-h-test.true refl

pub loop-h-init : goal.loop-h-init
loop-h-init c = fill_starts c.requires.fact_4
