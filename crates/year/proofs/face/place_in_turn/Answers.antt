-- `year::face::place_in_turn` meets its contract: every row that the loop has passed is earlier. Assumes nothing.
use mathlib.Core.Path.{sym, ◌∙◌, ap}
use Rattle.seq.specs.Seq.{not}
use Rattle.seq.specs.Loops.Searching.{search_starts}
use Rattle.seq.proofs.Loops.Searching.{search_turns, search_finds, search_ends}
use borrow.Author.Rules.{rules}
use Rattle.year.proofs.face.place_in_turn.Goals as goal

pub loop-k-preserved : goal.loop-k-preserved
loop-k-preserved c = search_turns c.loop-k.invariant (search rules) (ap not (sym c.earlier.ensures ∙ c.if-not-earlier.false))

pub returns-then-not-earlier : goal.returns-then-not-earlier
returns-then-not-earlier c = search_finds c.loop-k.invariant (search rules) (ap not (sym c.earlier.ensures ∙ c.if-not-earlier.true))

pub loop-k-init : goal.loop-k-init
loop-k-init c = search_starts

pub returns : goal.returns
returns c = search_ends c.loop-k.invariant (search rules)
