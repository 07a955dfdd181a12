-- One walk, one potential: in a plane graph O that covers a map m, the follower of a half-edge has at its left, where it starts, what the half-edge has at its
-- left where it starts, in m's potentials. By a move along the half-edge to where it arrives (`slid`), and round that vertex (`star`): no half-edge of O leaves
-- between its twin and its follower, clockwise, and an edge of m that leaves the vertex leaves it along a half-edge of O. Assumes nothing.
use Rattle.std.specs.Prelude.{ℕ, ◌/◌, ◌<◌, ℤ}
use Rattle.std.proofs.Common.{◌∙◌}
use Rattle.paper.specs.Graph.{Graph, start, goes_up, upward}
use Rattle.paper.specs.Map.{Map}
use Rattle.laws_labels.specs.Cuts.{at_left, at_right}
use Rattle.laws_labels.specs.Pot.{pot}

-- in the map m, the potential at the left of half-edge h of O where it starts, and at its right
abbrev pub the_left_in : Map → Graph → ℕ → ℤ
the_left_in m O h = pot m (at_left (start O h) (goes_up O h) (upward O (h / 2)))

abbrev pub right_in : Map → Graph → ℕ → ℤ
right_in m O h = pot m (at_right (start O h) (goes_up O h) (upward O (h / 2)))
