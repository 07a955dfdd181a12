-- What the functions that fill the reader's tables ask and promise of each other, of a file of any layout: counts within 01's numbers, and the tables of least half-edges and of
-- predecessors that they hand on. Assumes nothing.
use Rattle.std.specs.Prelude.{◌≡◌, ◌<◌, ◌≤◌, ◌∷◌, ◌+◌, ◌*◌, ◌/◌, ◌%◌}
use Rattle.seq.specs.Seq.{List, [], ℕ, eqb, length, get_or, ℤ, pos, table, position}
use Rattle.paper.specs.Limits.{overlay_vertices, overlay_edges, overlay_faces, overlay_head, denominator_bytes, maps}
use Rattle.paper.specs.Bytes.{number, signed_at}
use Rattle.paper.specs.Tables.{vertex_width, half_width, face_width, least_half, Counts}
use Rattle.paper.specs.Lent.{Lengths}
use Rattle.paper.specs.Ovfile.{Layout, vertex_size}
use Rattle.paper.specs.Reader.{counts_in, edge_field, stored_origin, stored_follower}

-- field j of the edge of half-edge 2k, and the one after it of 2k + 1
abbrev pub stored_field : Layout → List ℕ → ℕ → ℕ → ℕ
stored_field l s j h = edge_field l s (h / 2) (j + h % 2)

-- the origins and the followers of a file
abbrev pub starts_in : Layout → List ℕ → List ℕ
starts_in l s = table (stored_origin l s) (2 * (counts_in s).edges)

abbrev pub followers_in : Layout → List ℕ → List ℕ
followers_in l s = table (stored_follower l s) (2 * (counts_in s).edges)

-- a vertex's row, with the least outgoing half-edge by a table
abbrev pub vertex_by : Layout → List ℕ → List ℕ → ℕ → List ℤ
vertex_by l s least v = let w = l.coordinate in let b = overlay_head + vertex_size l * v in
    signed_at w s b ∷ signed_at w s (b + w) ∷ pos (number denominator_bytes s (b + 2 * w)) ∷ pos (get_or least v 0) ∷ []

-- no count is over its number
pub record Within (c : Counts) : Type 0 where
  pub vertices : c.vertices ≤ overlay_vertices
  pub edges : c.edges ≤ overlay_edges
  pub faces : c.faces ≤ overlay_faces

-- the tables have a row for each count
pub record Roomy (c : Counts) (ls : Lengths) : Type 0 where
  pub vertices : vertex_width * c.vertices ≤ ls.vertices
  pub halves : half_width * (2 * c.edges) ≤ ls.halves
  pub sources : maps * c.edges ≤ ls.sources
  pub faces : face_width maps * c.faces ≤ ls.faces

-- t has in cell h the predecessor of h
pub record Predecessors (l : Layout) (s t : List ℕ) : Type 0 where
  pub at : (h : ℕ) → h < 2 * (counts_in s).edges → get_or t h 0 ≡ position h (followers_in l s)

-- t has in cell v the least outgoing half-edge of v
pub record LeastStarts (l : Layout) (s t : List ℕ) : Type 0 where
  pub at : (v : ℕ) → v < (counts_in s).vertices → get_or t v 0 ≡ least_half (λ h. eqb (get_or (starts_in l s) h 0) v) (length (starts_in l s))
