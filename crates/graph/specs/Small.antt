-- A small graph has at most a thirty-second of what an overlay may have: small tables have room for it. Assumes nothing.
use Rattle.std.specs.Prelude.{◌+◌, ◌/◌}
use Rattle.seq.specs.Seq.{ℕ}
use Rattle.paper.specs.Limits.{overlay_vertices, overlay_edges}

abbrev pub small_vertices : ℕ
small_vertices = overlay_vertices / 32

abbrev pub small_edges : ℕ
small_edges = overlay_edges / 32

-- a face for each edge, and face 0
abbrev pub small_faces : ℕ
small_faces = small_edges + 1
