-- `mend::bytes::put_corners` meets its contract: what is stored are the rows of those below the counter that are kept. Assumes nothing.
use Rattle.std.specs.Prelude.{◌-◌}
use mathlib.Core.Path.{sym, ◌∙◌}
use mathlib.Core.Logic.{⊎_elim}
use native.Mathlib.Omega.{arith}
use borrow.Author.Rules.{rules}
use Rattle.seq.specs.Count.{count_below}
use Rattle.paper.specs.Mend.{corner_bytes}
use Rattle.map_check.specs.Parts.{corner_in}
use Rattle.mend.specs.Steps.{step_is}
use Rattle.mend.proofs.ByteLaws.{corner_long}
use Rattle.mend.proofs.AppendLaws.{Appending, append_starts, append_takes, append_leaves, append_ends}
use Rattle.mend.proofs.bytes.put_corners.Given as goal

abbrev pub invariant-loop-v : goal.invariant-loop-v
invariant-loop-v l = Appending 4 (step_is l.steps 0) (λ u. corner_bytes (corner_in l.points u)) 9 l.n l.initial.out l.out l.at l.v
