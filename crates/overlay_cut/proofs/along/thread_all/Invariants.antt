-- `overlay_cut::along::thread_all` meets its contract. Assumes nothing.
use mathlib.Core.Path.{◌≡◌}
use mathlib.Core.List.{[]}
use Prim.Native.Nat.{◌≤◌}
use lib.ListN.{length}
use Rattle.paper.specs.Limits.{maps}
use Rattle.overlay_cut.specs.Cutting.{puts, Cutting}
use Rattle.overlay_cut.specs.Links.{Linked}
use Rattle.overlay_cut.specs.Threads.{thread_part, thread_all}
use Rattle.overlay_cut.proofs.along.thread_all.Given as goal

abbrev pub invariant-loop-m : goal.invariant-loop-m
invariant-loop-m l =
    (l.m ≤ maps) × (length l.rows ≡ length l.initial.rows) × (length l.links ≡ length l.initial.links) × Linked l.room l.rows l.links l.n l.total
    × Cutting l.room (thread_part l.last l.nodes l.starts) (puts l.room [] (thread_all l.last l.nodes l.starts)) l.rows l.total l.m
