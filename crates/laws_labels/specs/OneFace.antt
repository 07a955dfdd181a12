-- One face, one potential: in a plane graph O that covers a map m, every half-edge has at its left, in m, what its face holds (`one_face`): face 0 holds 0, and any other face what is
-- at the left of its least outer half-edge. Along an outer walk the potential is one; a hole walk has that of the half-edge that it sees, and its face, and
-- each look goes to a walk with a smaller smallest vertex. Assumes nothing.
use Rattle.std.specs.Prelude.{List, ℕ, zero, suc, ◌<◌, ℤ, pos}
use Rattle.std.proofs.Common.{◌∙◌}
use Rattle.seq.specs.Seq.{get_or, select}
use Rattle.paper.specs.Graph.{Graph, the_half_count}
use Rattle.paper.specs.Faces.{walks_of, leads_outer}
use Rattle.paper.specs.Map.{Map}
use Rattle.laws_labels.specs.Star.{the_left_in}

-- the least outer half-edges of the faces from 1 on
abbrev pub outers_of : Graph → List ℕ
outers_of O = select (leads_outer (walks_of O)) (the_half_count O)

-- what a face holds, in m
abbrev pub held_in : Map → Graph → ℕ → ℤ
held_in m O zero = pos 0
held_in m O (suc f) = the_left_in m O (get_or (outers_of O) f 0)
