-- `overlay_cut::cutting::cut_map` meets its contract. Assumes nothing.
use mathlib.Core.Path.{◌≡◌}
use Prim.Native.Nat.{◌≤◌}
use lib.ListN.{length}
use Rattle.overlay_cut.specs.Links.{pieced, Linked}
use Rattle.overlay_cut.specs.Cutting.{puts, Cutting}
use Rattle.overlay_cut.specs.Cuts.{cut_row, cut_map}
use Rattle.overlay_cut.proofs.cutting.cut_map.Given as goal

abbrev pub invariant-loop-k : goal.invariant-loop-k
invariant-loop-k l =
    (l.k ≤ l.e) × (length l.rows ≡ length l.initial.rows) × (length l.links ≡ length l.initial.links) × Linked l.room l.rows l.links l.chart.n l.total
    × Cutting l.room (cut_row l.chart.points.now l.chart.n l.chart.carriers.now l.from l.m) (puts l.room (pieced l.initial.rows l.count) (cut_map l.chart.points.now l.chart.n l.chart.carriers.now l.from l.m l.e)) l.rows l.total l.k
