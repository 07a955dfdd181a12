-- `overlay_cut::cutting::cut_all` meets its contract. Assumes nothing.
use mathlib.Core.Path.{◌≡◌}
use mathlib.Core.List.{[]}
use Prim.Native.Nat.{◌≤◌}
use lib.ListN.{length}
use Rattle.paper.specs.Limits.{maps}
use Rattle.overlay_cut.specs.Cutting.{puts, Cutting}
use Rattle.overlay_cut.specs.Links.{Linked}
use Rattle.overlay_cut.specs.Cuts.{cut_part, cut_all}
use Rattle.overlay_cut.proofs.cutting.cut_all.Given as goal

abbrev pub invariant-loop-m : goal.invariant-loop-m
invariant-loop-m l =
    (l.m ≤ maps) × (length l.rows ≡ length l.initial.rows) × (length l.links ≡ length l.initial.links) × Linked l.room l.rows l.links l.chart.n l.total
    × Cutting l.room (cut_part l.chart.points.now l.chart.n l.chart.carriers.now l.chart.starts.now) (puts l.room [] (cut_all l.chart.points.now l.chart.n l.chart.carriers.now l.chart.starts.now)) l.rows l.total l.m
