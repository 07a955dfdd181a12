-- `year::face::place_by_halves` meets its contract: all rows below `low` are earlier, and that at `high` is not. Assumes nothing.
use mathlib.Core.Path.{sym, ◌∙◌, ap}
use native.Mathlib.Omega.{arith}
use Rattle.seq.specs.Seq.{not}
use Rattle.seq.specs.Halves.{halve_starts, halve_up, halve_down}
use Rattle.seq.proofs.Halves.{halve_ends}
use Rattle.year.specs.Risen.{rows_last}
use borrow.Author.Rules.{rules}
use Rattle.year.proofs.face.place_by_halves.Goals as goal
use Rattle.year.proofs.face.place_by_halves.Invariants.{reached}

pub earlier-requires : goal.earlier-requires
earlier-requires c =
    omega (arith, c.requires.fact_1, c.loop-low.invariant.within)

pub overflow_add-mid : goal.overflow_add-mid
overflow_add-mid c =
    omega (arith, c.requires.fact_1, c.loop-low.invariant.within)

pub overflow_add-low : goal.overflow_add-low
overflow_add-low c =
    omega (arith, c.requires.fact_1, c.loop-low.invariant.within)

pub loop-low-preserved-then-earlier : goal.loop-low-preserved-then-earlier
loop-low-preserved-then-earlier c =
    let a = c.args in
    halve_up (reached a.rows.now a.zone a.block) c.loop-low.invariant _ (omega arith) (omega arith) (rows_last a.rows.now a.n a.zone a.block c.requires.fact_2) (ap not (sym c.earlier.ensures ∙ c.if-earlier.true))

pub loop-low-preserved : goal.loop-low-preserved
loop-low-preserved c =
    let a = c.args in
    halve_down (reached a.rows.now a.zone a.block) c.loop-low.invariant _ (omega arith) (omega arith) (ap not (sym c.earlier.ensures ∙ c.if-earlier.false))

pub loop-low-init : goal.loop-low-init
loop-low-init c = halve_starts _ _

pub returns : goal.returns
returns c = halve_ends _ c.loop-low.invariant (search rules)
