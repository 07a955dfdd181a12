-- Maps that have room in small tables, by the counts in the headers of their files; and that have room in cleared tables. Assumes nothing.
use Rattle.std.specs.Prelude.{◌&&◌}
use Rattle.seq.specs.Seq.{Bool, List, ℕ, leb, replicate, pos}
use Rattle.seq.specs.Total.{total}
use Rattle.paper.specs.Map.{vertex_count, edges_in}
use Rattle.overlay_maps.specs.Layers.{StackRoom}
use Rattle.graph.specs.Small.{small_vertices, small_edges}

abbrev pub few_rows : List (List ℕ) → Bool
few_rows files = leb (total vertex_count files) small_vertices && leb (total edges_in files) small_edges

-- cleared tables of p cells of corners, h half-edges and c cells of carriers have room for the maps of files
abbrev pub RoomOf : List (List ℕ) → ℕ → ℕ → ℕ → Type 0
RoomOf files p h c = StackRoom files (replicate p (pos 0)) (replicate h 0) (replicate c (pos 0)) (replicate h 0)
