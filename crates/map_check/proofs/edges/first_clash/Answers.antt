-- `map_check::edges::first_clash` meets its contract: nothing below the counter has been found. Assumes nothing.
use mathlib.Core.Path.{sym, ◌∙◌}
use native.Mathlib.Omega.{arith}
use borrow.Author.Rules.{rules}
use Rattle.map_check.specs.Later.{later-starts, later-is}
use Rattle.seq.proofs.Loops.Searching.{search_turns, search_finds, search_ends}
use Rattle.map_check.proofs.edges.first_clash.Goals as goal

pub returns-then-clashes : goal.returns-then-clashes
returns-then-clashes c =
    search_finds c.loop-j.invariant.1 (omega arith) (later-is c.args.carriers.now c.args.k c.loop-j.j c.loop-j.invariant.0 ∙ sym c.clashes.ensures ∙ c.if-clashes.true)

pub loop-j-preserved : goal.loop-j-preserved
loop-j-preserved c =
    (omega arith, search_turns c.loop-j.invariant.1 (omega arith) (later-is c.args.carriers.now c.args.k c.loop-j.j c.loop-j.invariant.0 ∙ sym c.clashes.ensures ∙ c.if-clashes.false))

pub loop-j-init : goal.loop-j-init
loop-j-init c = (omega arith, record { within = search rules; none = later-starts c.args.carriers.now c.args.k })

pub returns : goal.returns
returns c = search_ends c.loop-j.invariant.1 (omega arith)
