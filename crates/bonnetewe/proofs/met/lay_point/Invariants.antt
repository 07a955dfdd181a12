-- `bonnetewe::met::lay_point` meets its contract. Assumes nothing.
use mathlib.Core.Path.{◌∙◌}
use Prim.Native.Nat.{◌-◌}
use native.Mathlib.Omega.{arith}
use mir.Syntax.{w64}
use mir.ValLaws.{to_z-of_z}
use borrow.Author.Rules.{rules}
use lib.ListN.{length}
use Rattle.seq.specs.Filled.{filled_all}
use Rattle.seq.specs.Loops.Filling.{Filling, fill_starts, fill_turns, fill_ends}
use Rattle.plane.specs.Values.{pt_of}
use Rattle.bonnetewe.specs.Met.{point_cell}
use Rattle.bonnetewe.proofs.met.lay_point.Given as goal

abbrev pub invariant-loop-i : goal.invariant-loop-i
invariant-loop-i l = Filling (point_cell (pt_of l.p)) (length l.initial.point) l.initial.point l.point l.i
