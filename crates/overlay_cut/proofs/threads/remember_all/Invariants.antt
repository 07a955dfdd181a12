-- `overlay_cut::threads::remember_all` meets its contract. Assumes nothing.
use mathlib.Core.Path.{◌≡◌}
use Prim.Native.Nat.{◌-◌, ◌≤◌}
use lib.ListN.{length}
use Rattle.overlay_cut.specs.Threads.{named_in, RememberedIf}
use Rattle.overlay_cut.proofs.threads.remember_all.Given as goal

abbrev pub invariant-loop-i : goal.invariant-loop-i
invariant-loop-i l =
    (length l.last ≡ length l.initial.last) × (length l.nodes ≡ length l.initial.nodes) × (l.from ≤ l.i) × (l.i ≤ l.to) × (l.n ≤ l.room) × RememberedIf l.e l.room l.v (named_in l.cells l.from (l.i - l.from)) l.initial.last l.initial.nodes l.t l.last l.nodes l.n
