-- `soundings_count::count::place` meets its contract: all rows below `low` are less, and that at `high` is not. Assumes nothing.
use mathlib.Core.Path.{sym, ◌∙◌, ap}
use Rattle.seq.specs.Halves.{halve_starts, halve_up, halve_down}
use Rattle.seq.proofs.Halves.{halve_ends}
use Rattle.soundings_count.specs.InOrder.{reached_at, rows_last}
use Rattle.seq.specs.Seq.{not}
use borrow.Author.Rules.{rules}
use native.Mathlib.Omega.{arith}
use Rattle.soundings_count.proofs.count.place.Goals as goal
use Rattle.soundings_count.proofs.count.place.Goals.{At-loop-low, In-loop-low, Start}

pub less-requires : goal.less-requires
less-requires c =
    omega (arith, c.requires.fact_1, c.loop-low.invariant.within)

pub overflow_add-mid : goal.overflow_add-mid
overflow_add-mid c = omega (arith, c.requires.fact_1, c.loop-low.invariant.within)

pub overflow_add-low : goal.overflow_add-low
overflow_add-low c = omega (arith, c.requires.fact_1, c.loop-low.invariant.within)

pub loop-low-preserved-then-less : goal.loop-low-preserved-then-less
loop-low-preserved-then-less c =
    let a = c.args in
    halve_up (reached_at a.labels.now a.n a.a a.b c.requires.fact_2) c.loop-low.invariant _ (omega arith) (omega arith) (rows_last a.labels.now a.n a.a a.b c.requires.fact_2) (ap not (sym c.less.ensures ∙ c.if-less.true))

pub loop-low-preserved : goal.loop-low-preserved
loop-low-preserved c =
    let a = c.args in
    halve_down (reached_at a.labels.now a.n a.a a.b c.requires.fact_2) c.loop-low.invariant _ (omega arith) (omega arith) (ap not (sym c.less.ensures ∙ c.if-less.false))

pub loop-low-init : goal.loop-low-init
loop-low-init c = halve_starts _ _

pub returns : goal.returns
returns c = halve_ends _ c.loop-low.invariant (search rules)
