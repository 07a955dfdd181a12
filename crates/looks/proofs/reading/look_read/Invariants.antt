-- `looks::reading::look_read` meets its contract. Assumes nothing.
use mathlib.Core.Path.{refl, sym, ◌∙◌, ap}
use Prim.Native.Nat.{ℕ, ◌-◌, ◌<◌, ◌*◌}
use lib.IntN.{ℤ}
use Rattle.seq.specs.Seq.{List}
use native.Mathlib.Omega.{arith}
use Rattle.plane.specs.Values.{vec_of}
use Rattle.graph.specs.Flat.{Carriers, Carried}
use Rattle.looks.specs.Rails.{above, Reading, read_starts, read-le, read_turns, read_ends}
use borrow.Author.Rules.{rules}
use Rattle.looks.proofs.reading.look_read.Given as goal

abbrev pub invariant-loop-i : goal.invariant-loop-i
invariant-loop-i l = Reading l.rails l.e (vec_of l.c) l.r l.i
