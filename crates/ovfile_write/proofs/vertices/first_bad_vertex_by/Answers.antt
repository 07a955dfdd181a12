-- `ovfile_write::vertices::first_bad_vertex_by` meets its contract: nothing below the counter has been found. Assumes nothing.
use mathlib.Core.Path.{sym, ◌∙◌}
use Rattle.seq.specs.Loops.Searching.{search_starts}
use Rattle.seq.proofs.Loops.Searching.{search_turns, search_finds, search_ends}
use Rattle.ovfile_write.proofs.vertices.first_bad_vertex_by.Goals as goal

pub returns-then-bad_vertex : goal.returns-then-bad_vertex
returns-then-bad_vertex c =
    search_finds c.loop-v.invariant c.loop-v-test.true (sym c.bad_vertex.ensures ∙ c.if-bad_vertex.true)

pub loop-v-preserved : goal.loop-v-preserved
loop-v-preserved c =
    search_turns c.loop-v.invariant c.loop-v-test.true (sym c.bad_vertex.ensures ∙ c.if-bad_vertex.false)

pub loop-v-init : goal.loop-v-init
loop-v-init c = search_starts

pub returns : goal.returns
returns c = search_ends c.loop-v.invariant c.loop-v-test.false
