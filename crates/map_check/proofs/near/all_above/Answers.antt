-- `map_check::near::all_above` meets its contract: no edge in a cell below the counter clashes with one in a later cell. Assumes nothing.
use mathlib.Core.Path.{refl}
use borrow.Author.Count.{below_more}
use borrow.Author.Rules.{rules}
use native.Mathlib.Omega.{arith}
use Rattle.exact.specs.Tests.{never}
use Rattle.seq.specs.Tests.{was-true}
use Rattle.map_check.specs.Pass.{ClearAbove}
use Rattle.map_check.specs.Laws.Rising.{turn-least}
use Rattle.map_check.proofs.near.all_above.Goals as goal

pub clear_above-requires : goal.clear_above-requires
clear_above-requires c =
    let p = c.requires.fact_1 in
    record { fact_1 = (p, c.loop-i-test.true); fact_2 = c.requires.fact_2; fact_3 = omega (arith, c.requires.fact_3, c.loop-i.invariant.0) }

pub loop-i-preserved : goal.loop-i-preserved
loop-i-preserved c =
    (search rules, below_more (ClearAbove c.args.o.carriers.now c.args.o.cells.now c.args.o.count) _ c.loop-i.invariant.1 (c.clear_above.ensures (was-true _ c.if-not-clear_above.false-raw)))

pub returns : goal.returns
returns c =
    let a = c.args in
    let p = c.requires.fact_1 in
    λ r. turn-least a.o.carriers.now a.o.cells.now a.o.count (omega (arith, p.3)) p.2 p.0 p.1 (λ k l. c.loop-i.invariant.1 k (omega (arith, c.loop-i-test.false, l)))

pub loop-i-init : goal.loop-i-init
loop-i-init c = (refl, λ k l. absurd (omega arith))

pub returns-then-not-clear_above : goal.returns-then-not-clear_above
returns-then-not-clear_above c = λ e. never e
