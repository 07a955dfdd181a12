-- `map_check::edges::search_clashing` meets its contract: nothing below the counter has been found. Assumes nothing.
use mathlib.Core.Path.{sym, ap, ◌∙◌}
use native.Mathlib.Omega.{arith}
use borrow.Author.Tests.{lt-ltb, le-ltb}
use Rattle.seq.specs.Seq.{ℕ, ltb}
use Rattle.map_check.specs.Later.{least-later}
use Rattle.seq.specs.Loops.Searching.{search_starts}
use Rattle.seq.proofs.Loops.Searching.{search_turns, search_finds, search_ends}
use Rattle.map_check.proofs.edges.search_clashing.Goals as goal

pub returns-then-first_clash-e : goal.returns-then-first_clash-e
returns-then-first_clash-e c =
    search_finds c.loop-k.invariant (omega arith) (ap (λ (r : ℕ). ltb r c.args.e) (sym c.first_clash.ensures) ∙ lt-ltb _ _ c.if-first_clash-e.true) ∙ least-later c.args.carriers.now c.args.e

pub loop-k-preserved : goal.loop-k-preserved
loop-k-preserved c =
    search_turns c.loop-k.invariant (omega arith) (ap (λ (r : ℕ). ltb r c.args.e) (sym c.first_clash.ensures) ∙ le-ltb _ _ c.if-first_clash-e.false)

pub returns : goal.returns
returns c =
    search_ends c.loop-k.invariant (omega arith) ∙ least-later c.args.carriers.now c.args.e

pub loop-k-init : goal.loop-k-init
loop-k-init c = search_starts
