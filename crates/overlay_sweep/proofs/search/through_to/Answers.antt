-- `overlay_sweep::search::through_to` meets its contract: all from a on that the loop has passed go through p. Assumes nothing.
use mathlib.Core.Path.{sym, ◌∙◌}
use borrow.Author.Rules.{rules}
use Rattle.seq.specs.Search.{scan_starts, scan_turns, scan-stops, scan_ends}
use Rattle.overlay_sweep.proofs.search.through_to.Goals as goal
use Rattle.overlay_sweep.proofs.search.through_to.Goals.{Start}

pub loop-i-init : goal.loop-i-init
loop-i-init c = scan_starts _ _ _ (search rules)

pub is_on-requires : goal.is_on-requires
is_on-requires c = record { fact_1 = search rules; fact_2 = c.requires.fact_2 }

pub loop-i-preserved : goal.loop-i-preserved
loop-i-preserved c = scan_turns _ _ _ c.loop-i.invariant (search rules) (sym c.is_on.ensures ∙ c.if-not-is_on.false)

pub returns-then-not-is_on : goal.returns-then-not-is_on
returns-then-not-is_on c = scan-stops _ _ _ c.loop-i.invariant (sym c.is_on.ensures ∙ c.if-not-is_on.true)

pub returns : goal.returns
returns c = scan_ends _ _ _ c.loop-i.invariant (search rules)
