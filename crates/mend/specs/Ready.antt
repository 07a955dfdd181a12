-- The tables of a file that can be mended. Assumes nothing.
use Rattle.std.specs.Prelude.{◌≡◌, ◌<◌, ◌*◌}
use Rattle.seq.specs.Seq.{List, none, ℕ, ℤ, count}
use Rattle.seq.specs.Filled.{Holds}
use Rattle.paper.specs.Map.{map_of, label, doubled, vertex_count, edges_in, corner_at}
use Rattle.paper.specs.Mend.{into, shrunk, repeated, kept_edges, has_edge}
use Rattle.paper.specs.Graph.{origin}
use Rattle.paper.specs.Refusal.{first_of}
use Rattle.map_check.specs.Parts.{corner_in, Corners}
use Rattle.mend.specs.Steps.{edge_step, vertex_step, step_is, file_faults}
use Rattle.mend.specs.Stored.{Counted}

-- ps has the corners, ls the labels, t the ends after step 1, ns the new numbers, vs and es the steps of vertices and edges; v vertices and k edges are kept
pub record Ready (s : List ℕ) (ps : List ℤ) (ls t ns vs es : List ℕ) (v k : ℕ) : Type 0 where
  pub good : first_of (file_faults s) ≡ none
  pub corners : Corners ps (vertex_count s)
  pub corner_is : (u : ℕ) → u < vertex_count s → corner_in ps u ≡ corner_at s u
  pub labels : Holds (label (map_of s)) ls (2 * edges_in s)
  pub ends : Holds (λ h. into (map_of s).graph (origin (map_of s).graph h)) t (2 * edges_in s)
  pub edge-steps : Holds (λ j. edge_step (shrunk (map_of s).graph j) (repeated (map_of s).graph j)) es (edges_in s)
  pub vertex-steps : Holds (λ u. vertex_step (has_edge (map_of s).graph (kept_edges (map_of s).graph) u) (doubled (map_of s).graph u)) vs (vertex_count s)
  pub numbers : Holds (count (step_is vs 0)) ns (vertex_count s)
  pub counted : Counted vs es (vertex_count s) (edges_in s) v k
