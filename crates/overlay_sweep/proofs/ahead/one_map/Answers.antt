-- `overlay_sweep::ahead::one_map` meets its contract. Assumes nothing.
use lib.Dec.{eqb}
use Rattle.overlay_sweep.proofs.ahead.one_map.Goals as goal

pub returns : goal.returns
returns c = λ i. eqb (c.map_of.ensures i) (c.map_of-2.ensures i)
