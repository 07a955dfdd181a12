-- `overlay_pairs::label::lay_labels` meets its contract: before turn j the first j cells stand. Assumes nothing.
use Rattle.std.specs.Prelude.{◌/◌, ◌%◌}
use native.Mathlib.Omega.{arith}
use borrow.Author.Rules.{rules}
use Rattle.seq.specs.Loops.Filling.{fill_starts, fill_turns, fill_ends}
use Rattle.paper.specs.Limits.{maps}
use Rattle.overlay_pairs.proofs.label.lay_labels.Goals as goal

pub overflow_mul-cells : goal.overflow_mul-cells
overflow_mul-cells c = omega (arith, c.requires.fact_3)

-- cell j is that of face j / maps in map j % maps
pub face_label-requires : goal.face_label-requires
face_label-requires c =
    let j = c.loop-j.j in
    let h = c.loop-j-test.true in
    record { fact_1 = c.requires.fact_1; fact_2 = omega arith; fact_3 = c.requires.fact_2 (j % maps) (j / maps) (omega arith) (omega (arith, h)) }

pub offset_bounds-out-j : goal.offset_bounds-out-j
offset_bounds-out-j c = omega (arith, c.loop-j-test.true, c.requires.fact_3)

pub loop-j-init : goal.loop-j-init
loop-j-init c = fill_starts c.requires.fact_3

pub loop-j-preserved : goal.loop-j-preserved
loop-j-preserved c = fill_turns c.loop-j.invariant c.loop-j-test.true c.face_label.ensures

pub shape_of-out : goal.shape_of-out
shape_of-out c = c.loop-j.invariant.kept

pub returns : goal.returns
returns c = fill_ends c.loop-j.invariant (search rules)
