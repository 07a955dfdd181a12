-- What the code over a layout asks of it, so that no place leaves 64 bits: few bytes for a coordinate, and few maps. Of every version that is known, and of the one without
-- bytes that stands for all others. Then how far places go in it (`vertices-near`, `edges-near`, `faces-near`). Assumes nothing.
use Rattle.std.specs.Prelude.{◌≤◌, ◌<◌, ◌+◌, ◌*◌, ◌^◌}
use Rattle.std.proofs.Common.{mul-le-mul_right, arith}
use Rattle.seq.specs.Seq.{ℕ}
use Rattle.paper.specs.Limits as limits
use Rattle.paper.specs.Limits.{overlay_head}
use Rattle.paper.specs.Tables.{Counts}
use Rattle.paper.specs.Ovfile.{Layout, vertex_size, edge_size, edges_at, faces_at}

pub record Known (l : Layout) : Type 0 where
  pub coordinate : l.coordinate < 8
  pub maps : l.maps ≤ limits.maps

-- no vertex, edge or face has more bytes
abbrev pub largest : ℕ
largest = 18

-- n rows are no longer than n of the largest
pub rows-near : (size n : ℕ) → size ≤ largest → size * n ≤ largest * n
rows-near size n h = mul-le-mul_right n h

module _ (l : Layout) (K : Known l) where
  pub vertices-near : (v : ℕ) → v < 2 ^ 16 → overlay_head + vertex_size l * v < 2 ^ 21
  vertices-near v h = omega (arith, rows-near (vertex_size l) v (omega (arith, K.coordinate)))

  module _ (c : Counts) (v : c.vertices < 2 ^ 16) where
    pub edges-near : edges_at l c < 2 ^ 21
    edges-near = vertices-near c.vertices v

    pub faces-near : c.edges < 2 ^ 16 → faces_at l c < 2 ^ 22
    faces-near e = omega (arith, edges-near, rows-near (edge_size l) c.edges (omega (arith, K.maps)))
