-- `overlay_cut::cutting::cut_edge` meets its contract: what is left to put in, put into the table, gives the whole. Assumes nothing.
use mathlib.Core.Path.{◌≡◌}
use Prim.Native.Nat.{◌+◌, ◌≤◌}
use lib.ListN.{length}
use Rattle.paper.specs.Limits.{maps}
use Rattle.paper.specs.Plane.{on_seg}
use Rattle.paper.specs.Pieces.{only}
use Rattle.plane.specs.Values.{seg_of}
use Rattle.graph.specs.Flat.{the_point_at}
use Rattle.overlay_cut.specs.Links.{pieced, Linked}
use Rattle.overlay_cut.specs.Cutting.{puts, Linking}
use Rattle.overlay_cut.specs.Between.{Span}
use Rattle.overlay_cut.specs.Cuts.{cut_edge}
use Rattle.overlay_cut.proofs.cutting.cut_edge.Given as goal

abbrev pub invariant-loop-v : goal.invariant-loop-v
invariant-loop-v l =
    (length l.rows ≡ length l.initial.rows) × (length l.links ≡ length l.initial.links) × (l.v ≤ l.top + 1) × Span l.chart.points.now l.chart.n (seg_of l.s) l.first l.top × Linked l.room l.rows l.links l.chart.n l.total
    × Linking l.room l.chart.n (λ v. on_seg (seg_of l.s) (the_point_at l.chart.points.now v)) (only maps l.m l.number) (puts l.room (pieced l.initial.rows l.count) (cut_edge l.chart.points.now l.chart.n (seg_of l.s) l.m l.number)) l.rows l.total l.v l.next
