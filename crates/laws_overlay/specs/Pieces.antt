-- The edges of the overlay (01, "Overlay tables"): a piece is there exactly if its ends are neighbouring vertices on some edge of some map, and its sources are exactly
-- these: in each map the edge on which they are neighbours, or none (`piece_from`, `piece_has`). In a map there is one at most, by rule 8. The pieces rise strictly by
-- lower, then upper vertex number, so that a piece of several maps stands once; and lower < upper < the number of vertices. Over any points in order. Assumes nothing.
use Rattle.std.specs.Prelude.{◌≡◌, ◌<◌}
use Rattle.seq.specs.Seq.{List, [], some, ℕ, length, get_or}
use Rattle.seq.specs.Terms.{Rising}
use Rattle.seq.specs.Pairs.{rising-number}
use Rattle.paper.specs.Plane.{Pt}
use Rattle.paper.specs.Graph.{point_in}
use Rattle.paper.specs.Map.{Map}
use Rattle.paper.specs.Pieces.{layer, Piece, earlier, edges_of}
use Rattle.laws_overlay.specs.Maps.{AllKeep, two_common}
use Rattle.laws_overlay.specs.Places.{Places, at_real, at_before}
use Rattle.laws_overlay.specs.Links.{cut_out, Runs}
use Rattle.laws_overlay.specs.Sources.{source_at}
use Rattle.laws_overlay.specs.Order.{SameEnds, ends_same, ends_swap, order-rising}

-- what a piece is: between neighbours on an edge, and its sources are exactly the edges on which its ends are neighbours
pub record Sourced (ms : List Map) (vs : List Pt) (q : Piece) : Type 0 where
  pub width : length q.sources ≡ length ms
  pub from : (i k : ℕ) → source_at q.sources i ≡ some k → Runs ms vs i k q.lo q.hi
  pub all : (i k : ℕ) → Runs ms vs i k q.lo q.hi → source_at q.sources i ≡ some k
  pub one : (i : ℕ) × (k : ℕ) × (source_at q.sources i ≡ some k)

-- edge k of a list of pieces
abbrev pub no_piece : Piece
no_piece = record { lo = 0; hi = 0; sources = [] }

abbrev pub piece_at : List Piece → ℕ → Piece
piece_at ps k = get_or ps k no_piece

-- ── strictly in order ──

module _ (ms : List Map) (vs : List Pt) where
  pub pieces-rising : Rising earlier (edges_of ms vs)
  pieces-rising = order-rising (cut_out ms vs)

  -- no two have the same ends
  pub ends_once : (k r : ℕ) → k < length (edges_of ms vs) → r < length (edges_of ms vs) → SameEnds (piece_at (edges_of ms vs) k) (piece_at (edges_of ms vs) r) → k ≡ r
  ends_once k r lk lr s =
      let p = piece_at (edges_of ms vs) k in
      let q = piece_at (edges_of ms vs) r in
      rising-number earlier (edges_of ms vs) no_piece pieces-rising k r lk lr (ends_same p q s) (ends_same q p (ends_swap p q s))

  -- ── every source is one ──

  pub record Came (q : Piece) : Type 0 where
    pub width : length q.sources ≡ length ms
    pub from : (i k : ℕ) → source_at q.sources i ≡ some k → Runs ms vs i k q.lo q.hi
    pub one : (i : ℕ) × (k : ℕ) × (source_at q.sources i ≡ some k)

-- ── no source is missing ──

module _ (ms : List Map) (K : AllKeep ms) (vs : List Pt) (O : Places vs) where
  -- in one map two vertices are neighbours on one edge at most
  pub edge-once : (i j k lo hi : ℕ) → Runs ms vs i j lo hi → Runs ms vs i k lo hi → j ≡ k
  edge-once i j k lo hi r s =
      two_common (layer ms i) (K i r.in_list) j k r.of_map s.of_map (point_in vs lo) (point_in vs hi) (at_real vs O lo) (at_real vs O hi)
      (at_before vs O lo hi r.near.rises r.near.below) r.near.on_lo r.near.on_hi s.near.on_lo s.near.on_hi
