-- Why the labels of a map are right. In a map that keeps rules 1 to 10:
--     theorem-A    the label of every half-edge is the potential at its left
--     theorem-B    from any point along any direction that does not fall (any that rises, and `nowhere`, which counts only what is strictly west), the label of
--                  what is seen looking west is the potential of what is counted; 0 where nothing is seen
-- Label less potential is the same at the follower (rule 10, and the moves) and at the twin (the two sides of an edge differ by its jump). So it is 0 for all, by
-- descent: at a half-edge of greatest angle that goes down, its twin starts lower; at one that goes up, its walk comes lower, or it makes its walk
-- a hole walk, and then its label is what is seen strictly west (rule 10's second half), along an edge that starts lower. Assumes nothing.
use Rattle.std.specs.Prelude.{◌≡◌, false, [], ◌∷◌, ℕ, ◌/◌, ◌<◌, ◌-ℤ◌, ◌≤ℤ◌, ◌<ℤ◌}
use Rattle.std.proofs.Common.{◌∙◌}
use Rattle.paper.specs.Graph.{Graph, upward}
use Rattle.paper.specs.Graph as Gr
use Rattle.paper.specs.Map.{Map}
use Rattle.laws_graph.specs.East.{west_side, west-half, west_up}
use Rattle.laws_map.specs.Keeps.{seg, edges}
use Rattle.laws_labels.specs.Lawful.{Lawful}
use Rattle.laws_labels.specs.Spans.{span}
use Rattle.laws_labels.specs.Cuts.{lo, above, at_left}
use Rattle.laws_labels.specs.Pot.{pot}
use Rattle.laws_labels.specs.Edges.{at_low}
use Rattle.laws_labels.specs.Star.{the_left_in}

module _ (m : Map) (K : Lawful m) where
  abbrev pub g : Graph
  g = m.graph

  -- ── it is the same at the follower, and at the twin ──

  module _ (k : ℕ) (l : k < edges m) where
    pub west-pot : the_left_in m g (west_side g k) ≡ pot m (above false (lo (span m k)) (seg m k).up)
    west-pot i = pot m (at_left (at_low m K k l i) (west_up g K.plane k l i) (upward g (west-half g k i)))
