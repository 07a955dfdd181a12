-- `soundings::sounding::cell` meets its contract: both maps have few edges, so what is read for one sounding fits. Assumes nothing.
use native.Mathlib.Omega.{arith}
use Rattle.plane.specs.Values.{vec_of}
use Rattle.soundings.specs.Rows.{look_few}
use Rattle.soundings.proofs.sounding.cell.Goals as goal

pub overflow_add-result : goal.overflow_add-result
overflow_add-result c =
    let m = c.args.maps in
    record { fits = omega (arith, c.label_read-a.ensures.read, c.label_read-b.ensures.read, look_few m.zones.rows m.blocks.rows (vec_of c.args.c)) }
