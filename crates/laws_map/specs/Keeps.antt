-- What a map that passes rules 1 to 10 keeps, as the overlay and the proof of its labels use it: its graph is a plane graph whose edges run from corner to
-- corner, no two share a point that is not an end of both (8), every vertex has an edge (9), and labels agree (10). Assumes nothing.
use Rattle.std.specs.Prelude.{◌≡◌, ◌<◌, ◌<ℤ◌}
use Rattle.seq.specs.Seq.{true, ℕ, length, pos, or_zero}
use Rattle.paper.specs.Plane.{Pt, Seg, whole, head}
use Rattle.paper.specs.Graph.{edge_count, the_half_count, edge, origin, low, high, follower, followers, makes_hole, hole_look}
use Rattle.paper.specs.Map.{Map, label}
use Rattle.laws_plane.specs.Edges.{On, IsEnd}
use Rattle.laws_graph.specs.Plane.{Plane}

-- edge k of a map: it is its own carrier
abbrev pub seg : Map → ℕ → Seg
seg m k = (edge m.graph k).carrier

abbrev pub edges : Map → ℕ
edges m = edge_count m.graph

abbrev pub halves : Map → ℕ
halves m = the_half_count m.graph

abbrev pub vertices : Map → ℕ
vertices m = length m.graph.points

pub record Keeps (m : Map) : Type 0 where
  pub plane : Plane m.graph
  -- an edge runs from its lower end to its upper end
  pub foot_is : (k : ℕ) → k < edges m → whole (seg m k).foot ≡ low m.graph k
  pub head_is : (k : ℕ) → k < edges m → whole (head (seg m k)) ≡ high m.graph k
  -- a point that two edges share is an end of both
  pub share : (i j : ℕ) → i < edges m → j < edges m → (i ≡ j → ⊥) → (q : Pt) → pos 0 <ℤ q.D → On (seg m i) q → On (seg m j) q → IsEnd (seg m i) q × IsEnd (seg m j) q
  -- a half-edge leaves every vertex
  pub used : (v : ℕ) → v < vertices m → (h : ℕ) × (h < halves m) × (origin m.graph h ≡ v)
  -- a label is its follower's; where a half-edge makes its walk a hole walk, it is that of what is seen strictly west, or 0
  pub one_label : (h : ℕ) → h < halves m → label m (follower m.graph h) ≡ label m h
  pub hole-label : (h : ℕ) → h < halves m → makes_hole m.graph (followers m.graph) h ≡ true → label m h ≡ or_zero (label m) (hole_look m.graph (followers m.graph) h)
