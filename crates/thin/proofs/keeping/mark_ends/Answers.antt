-- `thin::keeping::mark_ends` meets its contract: before a turn the ends of the edges below the counter that stay are marked. Assumes nothing.
use mathlib.Core.Path.{sym, ◌∙◌}
use Rattle.thin.specs.Laws.Marking.{mark_starts, mark-takes, mark-skips, mark_ends, ends_more}
use native.Mathlib.Omega.{arith}
use Rattle.thin.proofs.keeping.mark_ends.Goals as goal
use Rattle.thin.proofs.keeping.mark_ends.Goals.{then-stays, else-stays}

pub loop-k-init : goal.loop-k-init
loop-k-init c =
    mark_starts c.requires.fact_2

pub stays-requires : goal.stays-requires
stays-requires c =
    c.requires.fact_1.sides c.loop-k.k (omega arith)

pub mark-requires : goal.mark-requires
mark-requires c =
    let r = c.loop-k.invariant in
    ends_more (c.requires.fact_1.ends c.loop-k.k (omega arith)) (omega (arith, r.kept, r.room))

pub loop-k-preserved : goal.loop-k-preserved
loop-k-preserved c =
    let r = c.loop-k.invariant in
    let e = c.requires.fact_1.ends c.loop-k.k (omega arith) in
    let q = sym c.stays.ensures in
    elim c.if-stays.branch [ then-stays w ↦ rw w.marks-is (mark-takes r (omega arith) (q ∙ w.if-stays.true) e.lower e.upper w.mark.ensures) | else-stays w ↦ rw w.marks-is (mark-skips r (omega arith) (q ∙ w.if-stays.false)) ]

pub shape_of-marks : goal.shape_of-marks
shape_of-marks c = c.loop-k.invariant.kept

pub returns : goal.returns
returns c = mark_ends c.loop-k.invariant (omega arith)
