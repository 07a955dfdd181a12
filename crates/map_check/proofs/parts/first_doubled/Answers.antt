-- `map_check::parts::first_doubled` meets its contract: nothing below the counter has been found. Assumes nothing.
use mathlib.Core.Path.{sym, ap, ◌∙◌}
use native.Mathlib.Omega.{arith}
use borrow.Author.Tests.{lt-ltb, le-ltb}
use Rattle.seq.specs.Loops.Searching.{search_starts}
use Rattle.seq.proofs.Loops.Searching.{search_turns, search_finds, search_ends}
use Rattle.seq.specs.Seq.{ℕ, ltb}
use Rattle.map_check.proofs.parts.first_doubled.Goals as goal

pub returns-then-lower-higher : goal.returns-then-lower-higher
returns-then-lower-higher c =
    search_finds c.loop-higher.invariant (omega arith) (ap (λ (u : ℕ). ltb u c.loop-higher.higher) (sym c.first_under-lower.ensures) ∙ lt-ltb _ _ c.if-lower-higher.true)

pub loop-higher-preserved : goal.loop-higher-preserved
loop-higher-preserved c =
    search_turns c.loop-higher.invariant (omega arith) (ap (λ (u : ℕ). ltb u c.loop-higher.higher) (sym c.first_under-lower.ensures) ∙ le-ltb _ _ c.if-lower-higher.false)

pub loop-higher-init : goal.loop-higher-init
loop-higher-init c = search_starts

pub returns : goal.returns
returns c = search_ends c.loop-higher.invariant (omega arith)
