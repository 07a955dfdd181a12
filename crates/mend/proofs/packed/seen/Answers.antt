-- `mend::packed::seen` meets its contract: what is found stands below the counter. Assumes nothing.
use Rattle.std.specs.Prelude.{◌-◌}
use mathlib.Core.Path.{refl}
use native.Mathlib.Omega.{arith}
use Rattle.mend.specs.Keys.{like_in}
use Rattle.mend.proofs.MarkLaws.{Seeing, see_starts, see_turns, see_ends}
use Rattle.mend.proofs.packed.seen.Goals as goal

pub loop-j-preserved : goal.loop-j-preserved
loop-j-preserved c =
    see_turns c.loop-j.invariant (omega arith) refl

pub loop-j-init : goal.loop-j-init
loop-j-init c = see_starts

pub returns : goal.returns
returns c = see_ends c.loop-j.invariant (omega arith)
