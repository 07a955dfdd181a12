-- The rows of the tables: one more than the overlay may have, so that a full table says that there are more. Assumes nothing.
use Rattle.std.specs.Prelude.{ℕ, ◌+◌}
use Rattle.paper.specs.Limits.{overlay_vertices, overlay_edges}

abbrev pub vertex_rows : ℕ
vertex_rows = overlay_vertices + 1

abbrev pub edge_rows : ℕ
edge_rows = overlay_edges + 1
