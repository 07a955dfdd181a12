-- `overlay_cut::along::cut_thread` meets its contract: what is left to put in, put into the table, gives the whole. Assumes nothing.
use mathlib.Core.Path.{◌≡◌}
use lib.ListN.{length}
use Rattle.paper.specs.Limits.{maps}
use Rattle.paper.specs.Pieces.{only}
use Rattle.overlay_cut.specs.Links.{pieced, Linked}
use Rattle.overlay_cut.specs.Cutting.{puts}
use Rattle.overlay_cut.specs.Threads.{thread, strung, Thread}
use Rattle.overlay_cut.specs.Laws.Along.{Stringing}
use Rattle.overlay_cut.proofs.along.cut_thread.Given as goal

abbrev pub invariant-loop-at : goal.invariant-loop-at
invariant-loop-at l =
    (length l.rows ≡ length l.initial.rows) × (length l.links ≡ length l.initial.links) × Thread l.nodes l.at l.n × Linked l.room l.rows l.links l.n l.total
    × Stringing l.room l.n (only maps l.m l.number) (puts l.room (pieced l.initial.rows l.count) (strung l.m l.number (thread l.nodes l.x))) l.rows l.total (thread l.nodes l.at) l.next

abbrev pub decreases-loop-at : goal.decreases-loop-at
decreases-loop-at l = l.at
