-- `mend::merge::move_ends` meets its contract: below the counter the cells are the ends, and the other cells as they were. Assumes nothing.
use Rattle.std.specs.Prelude.{◌*◌, ◌-◌}
use mathlib.Core.Path.{ap, ◌∙◌}
use native.Mathlib.Omega.{arith}
use borrow.Author.Rules.{rules}
use Rattle.seq.specs.Loops.Filling.{Filling, fill_starts, fill_turns, fill_ends}
use Rattle.seq.specs.Seq.{ℕ, get_or}
use Rattle.mend.specs.Steps.{now_in}
use Rattle.mend.proofs.merge.move_ends.Goals as goal

pub bounds-ends-h : goal.bounds-ends-h
bounds-ends-h c =
    omega (arith, c.loop-h.invariant.room, c.loop-h.invariant.kept)

pub offset_bounds-ends-h : goal.offset_bounds-ends-h
offset_bounds-ends-h c =
    omega (arith, c.loop-h.invariant.room, c.loop-h.invariant.kept)

pub loop-h-preserved : goal.loop-h-preserved
loop-h-preserved c =
    fill_turns c.loop-h.invariant (omega arith) (c.at_or.ensures ∙ ap (λ (u : ℕ). get_or c.args.into.now u 0) c.at_or-v.ensures)

pub loop-h-init : goal.loop-h-init
loop-h-init c = fill_starts (search rules)

pub shape_of-ends : goal.shape_of-ends
shape_of-ends c = c.loop-h.invariant.kept

pub returns : goal.returns
returns c = fill_ends c.loop-h.invariant (omega arith)
