-- `soundings::bytes::count_one` meets its contract. Assumes nothing.
use native.Mathlib.Omega.{arith}
use Rattle.plane.specs.Values.{vec_of}
use Rattle.soundings.specs.Rows.{look_few}
use Rattle.soundings.specs.Labels.{labels_of}
use Rattle.soundings.specs.Step.{step-counted}
use Rattle.soundings.proofs.bytes.count_one.Goals as goal

pub returns : goal.returns
returns c =
    let d = c.cell-p in
    let m = c.args.maps in
    step-counted _ (vec_of c.args.c) (labels_of d.result) _ _ _ _ _ _ c.if-m-gt-FACES.false d.ensures.labels d.ensures.read (omega (arith, d.ensures.read, look_few m.zones.rows m.blocks.rows (vec_of c.args.c))) c.put_cell-entries.ensures
