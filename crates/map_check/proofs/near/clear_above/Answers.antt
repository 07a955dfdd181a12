-- `map_check::near::clear_above` meets its contract. Assumes nothing.
use native.Mathlib.Omega.{arith}
use Rattle.map_check.proofs.near.clear_above.Goals as goal

pub clear_of-requires : goal.clear_of-requires
clear_of-requires c =
    let p = c.requires.fact_1 in
    record { fact_1 = p; fact_2 = (omega (arith, c.near_above-c.ensures.few, c.requires.fact_3), c.near_above-c.ensures) }

pub returns : goal.returns
returns c = c.clear_of.ensures
