-- `overlay_sweep::search::west_of` meets its contract: all below a have p on their right, and none from b on. Assumes nothing.
use mathlib.Core.Path.{sym, ◌∙◌, ap}
use native.Mathlib.Omega.{arith}
use borrow.Author.Rules.{rules}
use Rattle.seq.specs.Halves.{halve_starts, halve_up, halve_down}
use Rattle.seq.specs.Search.{steady-lasts, halve-stops}
use Rattle.seq.specs.Seq.{not}
use Rattle.overlay_sweep.proofs.search.west_of.Goals as goal
use Rattle.overlay_sweep.proofs.search.west_of.Goals.{Start}

pub parts_at-requires : goal.parts_at-requires
parts_at-requires c = c.requires

pub returns-then-parts_at : goal.returns-then-parts_at
returns-then-parts_at c = c.parts_at.ensures c.if-parts_at.true

pub loop-a-init : goal.loop-a-init
loop-a-init c = halve_starts _ _

pub is_right-requires : goal.is_right-requires
is_right-requires c =
    record { fact_1 = omega (arith, c.loop-a.invariant.within); fact_2 = c.requires.fact_1 }

pub loop-a-preserved-then-is_right : goal.loop-a-preserved-then-is_right
loop-a-preserved-then-is_right c =
    halve_up _ c.loop-a.invariant _ (omega arith) (omega arith) (steady-lasts _ _ c.requires.fact_2) (ap not (sym c.is_right.ensures ∙ c.if-is_right.true))

pub loop-a-preserved : goal.loop-a-preserved
loop-a-preserved c =
    halve_down _ c.loop-a.invariant _ (omega arith) (omega arith) (ap not (sym c.is_right.ensures ∙ c.if-is_right.false))

pub returns : goal.returns
returns c = halve-stops _ _ c.loop-a.invariant (search rules)
