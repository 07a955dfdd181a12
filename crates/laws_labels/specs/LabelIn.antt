-- The label of a half-edge of a covering graph O in a map m (`label_in` of 01's definitions) is m's potential at its left: along an edge of m it is that edge's label on that side (theorem
-- A and a move along the edge), otherwise that of what is seen looking west in m from its lower end along it (theorem B), and then both sides of the piece
-- are alike. What is asked of the source that a piece names is `Source`. Assumes nothing.
use Rattle.std.specs.Prelude.{◌≡◌, true, false, ℕ, ◌/◌, ◌<◌, pos, ◌<ℤ◌}
use Rattle.std.proofs.Common.{◌∙◌}
use Rattle.std.proofs.Math.Option.{Option, none, some}
use Rattle.paper.specs.Plane.{cross, before, the_left_by}
use Rattle.paper.specs.Graph.{Graph, low, upward}
use Rattle.paper.specs.Map.{Map}
use Rattle.laws_map.specs.Keeps.{seg, edges}
use Rattle.laws_labels.specs.Spans.{span}
use Rattle.laws_labels.specs.Cuts.{lo, hi, Leaves}

-- edge k of O lies along edge W of m, at least where it starts
pub record AlongEdge (O : Graph) (m : Map) (k W : ℕ) : Type 0 where
  pub below : W < edges m
  pub parallel : cross (upward O k) (seg m W).up ≡ pos 0
  pub on : the_left_by (seg m W) (low O k) ≡ pos 0
  pub from_low : before (low O k) (lo (span m W)) ≡ false
  pub to_high : before (low O k) (hi (span m W)) ≡ true

-- what the source of edge k in m says: the edge of m that it lies along, or that it lies along none
pub data Source (O : Graph) (m : Map) (k : ℕ) : Option ℕ → Type 0 where
  along : (W : ℕ) → AlongEdge O m k W → Source O m k (some W)
  off : ((j : ℕ) → j < edges m → Leaves (low O k) true (span m j) → cross (upward O k) (seg m j).up ≡ pos 0 → ⊥) → Source O m k none
