-- `year::state::full_rows` meets its contract. Assumes nothing.
use mathlib.Core.Path.{sym, ◌∙◌}
use native.Mathlib.Omega.{arith}
use Rattle.year.specs.Stated.{fulls_start, fulls_few, fulls_takes, fulls_skips, fulls_end}
use borrow.Author.Rules.{rules}
use Rattle.year.proofs.state.full_rows.Goals as goal
use Rattle.year.proofs.state.full_rows.Goals.{else-full, then-full}

pub loop-r-init : goal.loop-r-init
loop-r-init c = fulls_start _ _

pub overflow_add-total : goal.overflow_add-total
overflow_add-total c = omega (arith, fulls_few c.loop-r.invariant, c.loop-r-test.true)

pub loop-r-preserved : goal.loop-r-preserved
loop-r-preserved c =
    let r = c.loop-r.invariant in
    let b = c.loop-r-test.true in
    let q = sym c.full.ensures in
    elim c.if-full.branch [ then-full w ↦ fulls_takes r b (q ∙ w.if-full.true) (search rules) | else-full w ↦ fulls_skips r b (q ∙ w.if-full.false) (search rules) ]

pub returns : goal.returns
returns c = fulls_end c.loop-r.invariant (search rules)
