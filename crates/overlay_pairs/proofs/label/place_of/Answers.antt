-- `overlay_pairs::label::place_of` meets its contract. Assumes nothing.
use mathlib.Core.Path.{refl}
use native.Mathlib.Omega.{arith}
use Rattle.overlay_pairs.proofs.label.place_of.Goals as goal

pub start-requires : goal.start-requires
start-requires c =
    c.requires.starts

pub upward-requires : goal.upward-requires
upward-requires c =
    c.requires.carried

pub source_in-requires : goal.source_in-requires
source_in-requires c =
    record { fact_1 = c.requires.row; fact_2 = omega (arith, c.requires.of_maps) }

pub returns : goal.returns
returns c =
    let low = c.start.ensures in
    let up = c.upward.ensures in
    record { half_is = refl; source_is = c.source_in.ensures; low_is = low.is; up_is = up.is; near = low.near; direction = up.near }
