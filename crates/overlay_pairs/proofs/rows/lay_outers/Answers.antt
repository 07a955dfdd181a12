-- `overlay_pairs::rows::lay_outers` meets its contract. Assumes nothing.
use borrow.Author.Rules.{rules}
use Rattle.seq.specs.Loops.Filling.{fill_starts, fill_turns, fill_ends}
use Rattle.overlay_pairs.proofs.rows.lay_outers.Goals as goal

pub loop-f-init : goal.loop-f-init
loop-f-init c = fill_starts (search rules)

pub loop-f-preserved : goal.loop-f-preserved
loop-f-preserved c = fill_turns c.loop-f.invariant c.loop-f-test.true c.face_outer.ensures

pub returns : goal.returns
returns c = fill_ends c.loop-f.invariant (search rules)
