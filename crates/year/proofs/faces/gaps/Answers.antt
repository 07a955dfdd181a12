-- `year::faces::gaps` meets its contract. Assumes nothing.
use Rattle.year.specs.Faced.{gap_starts, gap_turns, gap_ends}
use borrow.Author.Rules.{rules}
use native.Mathlib.Omega.{arith}
use Rattle.year.proofs.faces.gaps.Goals as goal

pub loop-f-init : goal.loop-f-init
loop-f-init c = gap_starts _ _ _

pub overflow_add-total : goal.overflow_add-total
overflow_add-total c =
    let l = c.loop-f in
    let r = gap_turns l.invariant _ _ _ (search rules) c.gap-total.ensures c.label_of-zone.ensures c.label_of-block.ensures in
    omega (arith, r.few, r.within, c.requires)

pub loop-f-preserved : goal.loop-f-preserved
loop-f-preserved c = gap_turns c.loop-f.invariant _ _ _ (search rules) c.gap-total.ensures c.label_of-zone.ensures c.label_of-block.ensures

pub returns : goal.returns
returns c = gap_ends c.loop-f.invariant (search rules)
