-- The maps that the layers hold, read back from the tables, and what is known of layers whose maps keep the rules. Assumes nothing.
use Rattle.std.specs.Prelude.{◌≡◌, ◌≤◌, ◌<◌, ◌+◌, ◌*◌}
use Rattle.seq.specs.Seq.{List, ℕ, length, get_or, table}
use Rattle.paper.specs.Limits.{maps, map_edges}
use Rattle.paper.specs.Map.{Map}
use Rattle.laws_map.specs.Keeps.{Keeps}
use Rattle.overlay_maps.specs.Standing.{Stands, standing}
use Rattle.overlay_maps.specs.Layers.{Layers}

-- where the vertices and the edges of map i start; after the last map, where they end
abbrev pub vertex_start : Layers → ℕ → ℕ
vertex_start l i = get_or l.vertices i 0

abbrev pub edge_start : Layers → ℕ → ℕ
edge_start l i = get_or l.edges i 0

-- map i
abbrev pub held_map : Layers → ℕ → Map
held_map l i = standing l.corners l.origins l.carriers l.labels (vertex_start l i) (vertex_start l (i + 1)) (edge_start l i) (edge_start l (i + 1))

-- all maps
abbrev pub held_maps : Layers → List Map
held_maps l = table (held_map l) maps

-- every map stands in its part of the tables, the first from the start, no more edges in all than the maps may have; and each keeps the rules
pub record Held (l : Layers) : Type 0 where
  pub vertices_long : maps < length l.vertices
  pub edges_long : maps < length l.edges
  pub vertices_first : vertex_start l 0 ≡ 0
  pub edges_first : edge_start l 0 ≡ 0
  pub edges_few : edge_start l maps ≤ maps * map_edges
  pub stands : (i : ℕ) → i < maps → Stands l.corners l.origins l.carriers l.labels (vertex_start l i) (vertex_start l (i + 1)) (edge_start l i) (edge_start l (i + 1))
  pub keeps : (i : ℕ) → i < maps → Keeps (held_map l i)
