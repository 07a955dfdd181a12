-- `mend::packed::seen` meets its contract: what is found stands below the counter. Assumes nothing.
use Rattle.std.specs.Prelude.{◌-◌}
use mathlib.Core.Path.{refl}
use borrow.Author.Rules.{rules}
use native.Mathlib.Omega.{arith}
use Rattle.mend.specs.Keys.{like_in}
use Rattle.mend.proofs.MarkLaws.{Seeing, see_starts, see_turns, see_ends}
use Rattle.mend.proofs.packed.seen.Given as goal

abbrev pub invariant-loop-j : goal.invariant-loop-j
invariant-loop-j l = Seeing (like_in l.keys l.i) l.i l.found l.j
