-- What lies strictly inside a piece of the overlay: no vertex of a map, and no point of an edge of a map that is not parallel to it (`no_meet`); an edge of a map that has a
-- point there covers the piece, and is its source in that map (`covered`). Assumes nothing.
use Rattle.std.specs.Prelude.{◌≡◌, ◌<◌, ◌<ℤ◌}
use Rattle.seq.specs.Seq.{true, List, ℕ, pos}
use Rattle.paper.specs.Plane.{Pt, Seg, before}
use Rattle.paper.specs.Graph.{Graph, edge_count, point_in, edge}
use Rattle.paper.specs.Map.{Map}
use Rattle.paper.specs.Pieces.{vertices_of}
use Rattle.laws_overlay.specs.Maps.{AllKeep}
use Rattle.laws_overlay.specs.Places.{places, at_real}
use Rattle.laws_overlay.specs.Net.{net_of}

-- the overlay's graph
abbrev pub overlaid : List Map → Graph
overlaid ms = net_of ms (vertices_of ms)

-- the carrier of piece k, and its two ends
abbrev pub carrier_at : List Map → ℕ → Seg
carrier_at ms k = (edge (overlaid ms) k).carrier

abbrev pub low_at : List Map → ℕ → Pt
low_at ms k = point_in (vertices_of ms) (edge (overlaid ms) k).from

abbrev pub high_at : List Map → ℕ → Pt
high_at ms k = point_in (vertices_of ms) (edge (overlaid ms) k).to

-- q stands strictly between the ends of piece k
pub record Between (ms : List Map) (k : ℕ) (q : Pt) : Type 0 where
  pub real : pos 0 <ℤ q.D
  pub past : before (low_at ms k) q ≡ true
  pub under : before q (high_at ms k) ≡ true

module _ (ms : List Map) (K : AllKeep ms) (k : ℕ) (l : k < edge_count (overlaid ms)) where
  abbrev pub vs : List Pt
  vs = vertices_of ms

  pub low_real : pos 0 <ℤ (low_at ms k).D
  low_real = at_real vs (places ms K) (edge (overlaid ms) k).from

  pub high_real : pos 0 <ℤ (high_at ms k).D
  high_real = at_real vs (places ms K) (edge (overlaid ms) k).to
