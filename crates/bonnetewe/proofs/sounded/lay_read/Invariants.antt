-- `bonnetewe::sounded::lay_read` meets its contract. Assumes nothing.
use mathlib.Core.Path.{◌∙◌}
use Prim.Native.Nat.{◌-◌}
use native.Mathlib.Omega.{arith}
use borrow.Author.Rules.{rules}
use lib.ListN.{length}
use Rattle.seq.specs.Filled.{filled_all}
use Rattle.seq.specs.Loops.Filling.{Filling, fill_starts, fill_turns, fill_ends}
use Rattle.bonnetewe.specs.Sounded.{read_cell}
use Rattle.bonnetewe.proofs.sounded.lay_read.Given as goal

abbrev pub invariant-loop-i : goal.invariant-loop-i
invariant-loop-i l = Filling (read_cell l.n) (length l.initial.read) l.initial.read l.read l.i
