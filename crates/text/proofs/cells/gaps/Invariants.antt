-- `text::cells::gaps` meets its contract. Assumes nothing.
use Rattle.std.specs.Prelude.{◌-◌}
use Prim.Native.Nat.{◌≤◌}
use Rattle.seq.specs.Loops.Selecting.{Counting}
use Rattle.text.proofs.GapsLaws.{gap_behind}
use Rattle.text.proofs.cells.gaps.Given as goal

abbrev pub invariant-loop-f : goal.invariant-loop-f
invariant-loop-f l = (1 ≤ l.f) × Counting (gap_behind l.faces) (l.count - 1) l.found (l.f - 1)
