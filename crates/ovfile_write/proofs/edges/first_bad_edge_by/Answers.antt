-- `ovfile_write::edges::first_bad_edge_by` meets its contract: nothing below the counter has been found. Assumes nothing.
use mathlib.Core.Path.{sym, ◌∙◌}
use Rattle.seq.specs.Loops.Searching.{search_starts}
use Rattle.seq.proofs.Loops.Searching.{search_turns, search_finds, search_ends}
use Rattle.ovfile_write.proofs.edges.first_bad_edge_by.Goals as goal

pub returns-then-bad_edge : goal.returns-then-bad_edge
returns-then-bad_edge c =
    search_finds c.loop-k.invariant c.loop-k-test.true (sym c.bad_edge.ensures ∙ c.if-bad_edge.true)

pub loop-k-preserved : goal.loop-k-preserved
loop-k-preserved c =
    search_turns c.loop-k.invariant c.loop-k-test.true (sym c.bad_edge.ensures ∙ c.if-bad_edge.false)

pub loop-k-init : goal.loop-k-init
loop-k-init c = search_starts

pub returns : goal.returns
returns c = search_ends c.loop-k.invariant c.loop-k-test.false
