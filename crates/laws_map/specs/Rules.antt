-- Rules 1 to 10 as facts: what each refusal says of a file (`Form`), or of the map in it (`Rules`), that is not refused. Passes has that a file passes exactly if
-- it keeps them. Assumes nothing.
use Rattle.std.specs.Prelude.{◌≡◌, ◌≤◌, ◌<◌}
use Rattle.seq.specs.Seq.{true, false, List, ℕ, length, get_or, nat_abs, or_zero}
use Rattle.paper.specs.Limits.{map_vertices, map_edges, reach, map_head}
use Rattle.paper.specs.Plane.{same, clash}
use Rattle.paper.specs.Graph.{point, edge, origin, followers, makes_hole, hole_look}
use Rattle.paper.specs.Bytes.{ascii, marked, u16}
use Rattle.paper.specs.Map.{Map, label, vertex_count, edges_in, map_length}
use Rattle.laws_map.specs.Keeps.{seg, edges, halves, vertices}

-- 1 to 4: mark, version, counts, length
pub record Form (s : List ℕ) : Type 0 where
  pub long : map_head ≤ length s
  pub mark : marked (ascii "ZMP") s 0 ≡ true
  pub version : u16 s 3 ≡ 1
  pub few_vertices : vertex_count s ≤ map_vertices
  pub few_edges : edges_in s ≤ map_edges
  pub length_is : length s ≡ map_length s

-- 5 to 10
pub record Rules (m : Map) : Type 0 where
  -- 5: coordinates in range
  pub x_near : (v : ℕ) → v < vertices m → nat_abs (point m.graph v).X ≤ reach
  pub y_near : (v : ℕ) → v < vertices m → nat_abs (point m.graph v).Y ≤ reach
  -- 6: no vertex lies on one of lower number
  pub single : (v u : ℕ) → v < vertices m → u < v → same (point m.graph v) (point m.graph u) ≡ false
  -- 7: the ends of an edge are two vertices
  pub from_below : (k : ℕ) → k < edges m → (edge m.graph k).from < vertices m
  pub to_below : (k : ℕ) → k < edges m → (edge m.graph k).to < vertices m
  pub two_ends : (k : ℕ) → k < edges m → (edge m.graph k).from ≡ (edge m.graph k).to → ⊥
  -- 8: no two edges clash
  pub no_clash : (k j : ℕ) → k < edges m → j < edges m → (k ≡ j → ⊥) → clash (seg m k) (seg m j) ≡ false
  -- 9: a half-edge leaves every vertex
  pub used : (v : ℕ) → v < vertices m → (h : ℕ) × (h < halves m) × (origin m.graph h ≡ v)
  -- 10: a label is its follower's; of a hole maker it is that of what is seen
  pub one_label : (h : ℕ) → h < halves m → label m h ≡ label m (get_or (followers m.graph) h 0)
  pub hole-label : (h : ℕ) → h < halves m → makes_hole m.graph (followers m.graph) h ≡ true → label m h ≡ or_zero (label m) (hole_look m.graph (followers m.graph) h)
