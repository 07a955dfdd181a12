-- `mend::entries::put_step` meets its contract: what is stored are the entries of those below the counter at which the step is taken. Assumes nothing.
use Rattle.std.specs.Prelude.{◌∷◌, ◌+◌, ◌-◌}
use mathlib.Core.Path.{◌≡◌, refl, sym, ap, ◌∙◌}
use mathlib.Core.Logic.{⊎_elim}
use Prim.Native.Nat.{◌≤◌, ◌<◌}
use native.Mathlib.Numerals.{add-one}
use native.Mathlib.Omega.{arith}
use borrow.Author.Rules.{rules}
use lib.ListN.{set, length-set}
use Rattle.seq.specs.Count.{count_below}
use Rattle.seq.specs.Seq.{Bool, true, List, [], ℕ, length, sets}
use Rattle.mend.specs.Steps.{step_is}
use Rattle.mend.proofs.AppendLaws.{Appending, append_starts, append_takes, append_leaves, append_ends, append_place}
use Rattle.mend.proofs.entries.put_step.Given as goal

abbrev pub invariant-loop-i : goal.invariant-loop-i
invariant-loop-i l = Appending 2 (step_is l.steps l.step) (λ j. l.step ∷ j ∷ []) l.start l.n l.initial.list l.list l.at l.i
