-- `overlay_graph::collecting::vertices_by` meets its contract. Assumes nothing.
use native.Mathlib.Omega.{arith}
use Rattle.overlay_graph.proofs.collecting.vertices_by.Goals as goal

pub collect_maps-n-requires : goal.collect_maps-n-requires
collect_maps-n-requires c = record { fact_1 = c.requires.fact_1; fact_2 = c.requires.fact_2 }

pub sweep_maps-requires : goal.sweep_maps-requires
sweep_maps-requires c = c.requires

pub returns-in-Plain : goal.returns-in-Plain
returns-in-Plain c =
    record { collected = c.collect_maps-n.ensures; threads = λ h. absurd (omega arith) }

pub returns-in-Swept : goal.returns-in-Swept
returns-in-Swept c = c.sweep_maps.ensures
