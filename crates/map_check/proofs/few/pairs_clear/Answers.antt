-- `map_check::few::pairs_clear` meets its contract: no edge below the counter clashes with a later one. Assumes nothing.
use borrow.Author.Count.{below_more}
use native.Mathlib.Omega.{arith}
use Rattle.exact.specs.Tests.{never}
use Rattle.seq.specs.Tests.{was-true}
use Rattle.graph.specs.Flat.{carrier_at}
use Rattle.map_check.specs.Pass.{ClearAfter}
use Rattle.map_check.specs.Laws.Rising.{pairs-least}
use Rattle.map_check.proofs.few.pairs_clear.Goals as goal

pub loop-i-preserved : goal.loop-i-preserved
loop-i-preserved c =
    below_more (ClearAfter (carrier_at c.args.carriers.now) c.args.e) _ c.loop-i.invariant (c.clear_after.ensures (was-true _ c.if-not-clear_after.false-raw))

pub returns : goal.returns
returns c =
    λ r. pairs-least c.args.carriers.now c.args.e c.requires.1 (λ k l. c.loop-i.invariant k (omega (arith, c.loop-i-test.false, l)))

pub loop-i-init : goal.loop-i-init
loop-i-init c = λ k l. absurd (omega arith)

pub returns-then-not-clear_after : goal.returns-then-not-clear_after
returns-then-not-clear_after c = λ e. never e
