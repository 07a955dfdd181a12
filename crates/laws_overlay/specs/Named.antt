-- The numbers in the overlay's tables name what is there, and the tables are sound as 01 says of an overlay file ("An edge record is sound if"): origins below the vertex
-- count, twins, followers, predecessors and least half-edges below the half-edge count, faces below the face count; lower below upper, a source to each edge; a
-- follower starts where its half-edge ends and follows no other; the predecessor is the inverse. Assumes nothing.
use Rattle.std.specs.Prelude.{◌≡◌, ◌<◌, ◌≤◌, ◌+◌, ◌*◌}
use Rattle.seq.specs.Seq.{List, ℕ, length, least}
use Rattle.paper.specs.Graph.{Graph, the_half_count, leaves}
use Rattle.paper.specs.Map.{Map}
use Rattle.paper.specs.Pieces.{layer, vertices_of}
use Rattle.paper.specs.Faces.{overlay_of}
use Rattle.paper.specs.Tables as T
use Rattle.paper.specs.Tables.{Counts, Tables, origin_of, twin_of, follower_of, predecessor_of, source_cell, counts_of, tables_of}
use Rattle.laws_map.specs.Keeps.{edges}
use Rattle.laws_overlay.specs.Maps.{AllKeep}
use Rattle.laws_overlay.specs.Inside.{overlaid}

-- half-edge h of tables with counts c
pub record HalfNamed (c : Counts) (t : Tables) (h : ℕ) : Type 0 where
  pub origin_below : origin_of t h < c.vertices
  pub twin_below : twin_of t h < 2 * c.edges
  pub follower_below : follower_of t h < 2 * c.edges
  pub predecessor_below : predecessor_of t h < 2 * c.edges
  pub face_below : T.face_of t h < c.faces
  -- the follower starts where h ends, and the predecessor is the inverse
  pub follows : origin_of t (follower_of t h) ≡ origin_of t (twin_of t h)
  pub back : predecessor_of t (follower_of t h) ≡ h
  pub forth : follower_of t (predecessor_of t h) ≡ h

-- edge k: its sources are edges of the maps, and there is one
pub record EdgeNamed (ms : List Map) (c : Counts) (t : Tables) (k : ℕ) : Type 0 where
  pub rises : origin_of t (2 * k) < origin_of t (2 * k + 1)
  pub source-most : (i : ℕ) → i < length ms → source_cell (length ms) t k i ≤ edges (layer ms i)
  pub sourced : (i : ℕ) × (i < length ms) × (source_cell (length ms) t k i ≡ 0 → ⊥)

module _ (ms : List Map) (K : AllKeep ms) where
  abbrev pub t : Tables
  t = tables_of ms (overlay_of ms)

  abbrev pub c : Counts
  c = counts_of (overlay_of ms)

  abbrev pub g : Graph
  g = overlaid ms

  -- ── vertices ──

  module _ (v : ℕ) (l : v < length (vertices_of ms)) where
    abbrev pub h : ℕ
    h = least (leaves g v) (the_half_count g)
