-- What a map file that passes rules 1 to 7 has, on its bytes, as those who load it into tables lean on it: counts within the limits (3), corners within range (5),
-- ends that name vertices (7). Assumes nothing.
use Rattle.std.specs.Prelude.{◌≤◌, ◌<◌, ◌+◌, ◌*◌}
use Rattle.seq.specs.Seq.{List, ℕ}
use Rattle.paper.specs.Limits.{map_vertices, map_edges}
use Rattle.paper.specs.Map.{vertex_count, edges_in, corner_at, origin_at}
use Rattle.plane.specs.Bounds.{Corner}

pub record Kept (s : List ℕ) : Type 0 where
  pub few_vertices : vertex_count s ≤ map_vertices
  pub few_edges : edges_in s ≤ map_edges
  pub near : (v : ℕ) → v < vertex_count s → Corner (corner_at s v)
  pub from : (k : ℕ) → k < edges_in s → origin_at s (2 * k) < vertex_count s
  pub to : (k : ℕ) → k < edges_in s → origin_at s (2 * k + 1) < vertex_count s
