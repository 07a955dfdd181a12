-- `overlay_maps::stack::of_map` meets its contract. Assumes nothing.
use Rattle.overlay_maps.proofs.stack.of_map.Goals as goal

pub returns-in-Err : goal.returns-in-Err
returns-in-Err c = rw c.in-Err.is
