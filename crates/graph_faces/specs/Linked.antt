-- The walks and faces of a graph in tables: laid over what stood there before. Assumes nothing.
use Rattle.std.specs.Prelude.{◌≡◌, ◌*◌}
use Rattle.seq.specs.Seq.{List, [], ℕ, suc, length, table, over}
use Rattle.seq.specs.Filled.{Holds}
use Rattle.paper.specs.Limits.{overlay_edges}
use Rattle.paper.specs.Graph.{Graph, the_half_count, followers}
use Rattle.paper.specs.Faces.{Overlay, walks_of, lead_at, overlay_by, holes_of}
use Rattle.graph_faces.specs.Walked.{top_of}

-- "4,000 half-edges"
abbrev pub half_rows : ℕ
half_rows = 2 * overlay_edges

-- of each half-edge its follower, the least half-edge of its walk, and the half-edge of greatest angle out of the smallest vertex of its walk, over the tables as they were
pub record Linked (g : Graph) (next₀ lead₀ top₀ next lead top : List ℕ) : Type 0 where
  pub next_is : next ≡ over (followers g) next₀
  pub lead_is : lead ≡ over (walks_of g).lead lead₀
  pub top_is : top ≡ over (table (top_of g) (the_half_count g)) top₀

-- the last two, by their cells
pub record Led (g : Graph) (lead top : List ℕ) : Type 0 where
  pub leads : Holds (lead_at (walks_of g)) lead (the_half_count g)
  pub tops : Holds (top_of g) top (the_half_count g)

-- what the definition makes of the walks of g: no piece is asked
abbrev pub faces_of : Graph → Overlay
faces_of g = overlay_by [] (walks_of g)

-- the face of each half-edge, the least half-edges of the outer walks and how many there are, and the hole walks of each face, over the tables as they were
pub record Numbered (g : Graph) (face₀ outers₀ holes₀ face outers holes : List ℕ) (count : ℕ) : Type 0 where
  pub face_is : face ≡ over (faces_of g).face face₀
  pub outers_is : outers ≡ over (faces_of g).outers outers₀
  pub count_is : count ≡ length (faces_of g).outers
  pub holes_is : holes ≡ over (table (holes_of (faces_of g)) (suc count)) holes₀
