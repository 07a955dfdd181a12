-- `overlay_sweep::splice::lower` meets its contract. Assumes nothing.
use mathlib.Core.Path.{refl}
use Rattle.overlay_sweep.specs.Splicing.{lower_starts, lower_turns, lower_ends}
use borrow.Author.Rules.{rules}
use Rattle.overlay_sweep.proofs.splice.lower.Goals as goal

pub loop-i-init : goal.loop-i-init
loop-i-init c = lower_starts _ _ _ _ (search rules) (search rules) (search rules)

pub loop-i-preserved : goal.loop-i-preserved
loop-i-preserved c = lower_turns c.loop-i.invariant _ (search rules) refl

pub returns : goal.returns
returns c = lower_ends c.loop-i.invariant (search rules)
