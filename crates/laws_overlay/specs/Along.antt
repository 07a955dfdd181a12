-- What a piece's sources say of the piece. Where it has a source in a map: it lies on the line of that edge, from its lower end to its upper (`source-line`, `source-span`), and
-- every point of that edge is on such a piece (`piece-through`). Where it has none: no edge of that map leaves its lower end the way that it goes (`source_none`). Assumes
-- nothing.
use Rattle.std.specs.Prelude.{◌≡◌, ◌<◌}
use Rattle.seq.specs.Seq.{Bool, true, false, List, Option, some, ℕ}
use Rattle.paper.specs.Plane.{Pt, Seg}
use Rattle.paper.specs.Graph.{edge_count}
use Rattle.paper.specs.Map.{Map}
use Rattle.paper.specs.Pieces.{layer, vertices_of, edges_of}
use Rattle.laws_map.specs.Keeps.{seg}
use Rattle.laws_overlay.specs.Maps.{AllKeep}
use Rattle.laws_overlay.specs.Sources.{source_at}
use Rattle.laws_overlay.specs.Pieces.{piece_at}
use Rattle.laws_overlay.specs.Inside.{overlaid, low_at, high_at}

-- the sources of piece k
abbrev pub sources_at : List Map → ℕ → ℕ → Option ℕ
sources_at ms k i = source_at (piece_at (edges_of ms (vertices_of ms)) k).sources i

-- a piece along edge e of map i on which a test turns
pub record Through (ms : List Map) (i e : ℕ) (t : Pt → Bool) : Type 0 where
  pub piece : ℕ
  pub below : piece < edge_count (overlaid ms)
  pub source : sources_at ms piece i ≡ some e
  pub at_low : t (low_at ms piece) ≡ false
  pub at_high : t (high_at ms piece) ≡ true

module _ (ms : List Map) (K : AllKeep ms) where
  -- ── a source ──

  module _ (k : ℕ) (l : k < edge_count (overlaid ms)) (i e : ℕ) (s : sources_at ms k i ≡ some e) where
    abbrev pub t : Seg
    t = seg (layer ms i) e
