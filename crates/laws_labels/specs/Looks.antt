-- A look west in a plane graph O that covers a map m, along any direction that does not fall, in m's potentials: where it sees the edge W of O, what it counts of m has the
-- potential at the left of the half-edge seen, on W's east side (`seen`); where it sees nothing, 0 (`unseen`). With O the map's own graph this is the look of
-- theorem B; with the overlay's it leads from a hole walk to the walk around it. In order: O's candidates as cuts; each edge of m that is counted lies along a
-- piece that O counts (`counted-piece`); none is nearer than W; then along the right of W to its lower end. Assumes nothing.
use Rattle.std.specs.Prelude.{ℕ, ◌<◌, ℤ, pos, ◌≤ℤ◌, ◌<ℤ◌}
use Rattle.std.proofs.Common.{◌∙◌}
use Rattle.std.proofs.Math.Option.{Option, none, some}
use Rattle.paper.specs.Graph.{Graph}
use Rattle.paper.specs.Graph as Gr
use Rattle.paper.specs.Map.{Map}
use Rattle.laws_labels.specs.Star.{the_left_in}

-- in m, the potential at the left of what is seen; 0 where the outside is
abbrev pub seen_in : Map → Graph → Option ℕ → ℤ
seen_in m O none = pos 0
seen_in m O (some h) = the_left_in m O h
