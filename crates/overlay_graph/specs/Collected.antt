-- The overlay's vertices in a table with room for so many, however they were collected; and those on each edge as threads, where they are kept. Assumes nothing.
use Rattle.std.specs.Prelude.{◌≡◌, ◌≤◌, ◌<◌}
use Rattle.seq.specs.Seq.{List, ℕ, length, ℤ}
use Rattle.paper.specs.Limits.{maps}
use Rattle.paper.specs.Map.{Map}
use Rattle.paper.specs.Pieces.{vertices_of}
use Rattle.overlay_cut.specs.Rooms.{vertex_rows}
use Rattle.overlay_cut.specs.Points.{points_of}
use Rattle.overlay_cut.specs.Threads.{ThreadedIf}
use Rattle.overlay_maps.specs.Layers.{Layers}
use Rattle.overlay_maps.specs.Held.{edge_start, held_maps}

-- of the maps ms: the n points in ps are the vertices, or the table is full and there are as many or more
pub record CollectedOf (ms : List Map) (room : ℕ) (ps : List ℤ) (n : ℕ) : Type 0 where
  pub vertices-are : n < room → points_of ps n ≡ vertices_of ms
  pub vertices_over : room ≤ n → room ≤ length (vertices_of ms)

-- of the maps that the tables l hold, with room for one more than the overlay may have: besides, if t is less than `room`, the t nodes of ns are the threads of the vertices on each edge
pub record ThreadedOf (l : Layers) (room : ℕ) (ps : List ℤ) (n : ℕ) (last ns : List ℕ) (t : ℕ) : Type 0 where
  pub collected : CollectedOf (held_maps l) vertex_rows ps n
  pub threads : ThreadedIf ps l.carriers (edge_start l maps) last ns room t n
