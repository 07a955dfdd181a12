-- Round a vertex of the overlay: an edge of a map that leaves it, up or down, goes the way of an overlay half-edge that leaves it (`out`), whose piece comes from that edge.
-- So no edge of a map leaves it strictly between a half-edge and the next one clockwise (`sector`); and every vertex is left by one (`vertex_left`). Assumes nothing.
use Rattle.std.specs.Prelude.{◌≡◌, ◌<◌, ◌/◌}
use Rattle.seq.specs.Seq.{Bool, true, cond, List, some, ℕ, length}
use Rattle.paper.specs.Plane.{Vec, whole, head, opposite, before, less_angle}
use Rattle.paper.specs.Graph.{Graph, the_half_count, point_in, origin, goes_up, heading}
use Rattle.paper.specs.Map.{Map}
use Rattle.paper.specs.Pieces.{layer, vertices_of, edges_of}
use Rattle.laws_plane.specs.Angles.{SameWay}
use Rattle.laws_plane.specs.Edges.{On}
use Rattle.laws_graph.specs.Follow.{lesser}
use Rattle.laws_map.specs.Keeps.{seg, edges}
use Rattle.laws_overlay.specs.Maps.{AllKeep}
use Rattle.laws_overlay.specs.Sources.{source_at}
use Rattle.laws_overlay.specs.Pieces.{piece_at}
use Rattle.laws_overlay.specs.Inside.{overlaid}

-- along u, or against it
abbrev pub arrow : Bool → Vec → Vec
arrow b u = cond b u (opposite u)

-- edge k of map i leaves vertex v of the overlay, up (true) or down (false): it starts there, ends there or goes through
pub record Leaves (ms : List Map) (v i k : ℕ) (b : Bool) : Type 0 where
  pub in_list : i < length ms
  pub of_map : k < edges (layer ms i)
  pub on : On (seg (layer ms i) k) (point_in (vertices_of ms) v)
  pub goes : cond b (before (point_in (vertices_of ms) v) (whole (head (seg (layer ms i) k)))) (before (whole (seg (layer ms i) k).foot) (point_in (vertices_of ms) v)) ≡ true

-- a half-edge of the overlay leaves v, the way of edge k of map i, from which its piece comes
pub record Out (ms : List Map) (v i k : ℕ) (b : Bool) : Type 0 where
  pub half : ℕ
  pub below : half < the_half_count (overlaid ms)
  pub leaves : origin (overlaid ms) half ≡ v
  pub upward : goes_up (overlaid ms) half ≡ b
  pub way : SameWay (heading (overlaid ms) half) (arrow b (seg (layer ms i) k).up)
  pub source : source_at (piece_at (edges_of ms (vertices_of ms)) (half / 2)).sources i ≡ some k

-- ── none between ──

-- no edge of map i leaves where t starts strictly between r and t, going down in angle from t and on from the greatest
pub data Sector (ms : List Map) (i t r : ℕ) : Type 0 where
  inner : lesser (overlaid ms) r t ≡ true →
      ((k : ℕ) (b : Bool) → Leaves ms (origin (overlaid ms) t) i k b → less_angle (heading (overlaid ms) r) (arrow b (seg (layer ms i) k).up) ≡ true → less_angle (arrow b (seg (layer ms i) k).up) (heading (overlaid ms) t) ≡ true → ⊥) → Sector ms i t r
  wrap : (lesser (overlaid ms) r t ≡ true → ⊥) →
      ((k : ℕ) (b : Bool) → Leaves ms (origin (overlaid ms) t) i k b → less_angle (arrow b (seg (layer ms i) k).up) (heading (overlaid ms) t) ≡ true → ⊥) →
      ((k : ℕ) (b : Bool) → Leaves ms (origin (overlaid ms) t) i k b → less_angle (heading (overlaid ms) r) (arrow b (seg (layer ms i) k).up) ≡ true → ⊥) → Sector ms i t r

module _ (ms : List Map) (K : AllKeep ms) (i t r : ℕ) (lt : t < the_half_count (overlaid ms)) (lr : r < the_half_count (overlaid ms)) (o : origin (overlaid ms) r ≡ origin (overlaid ms) t) where
  abbrev pub gr : Graph
  gr = overlaid ms

  abbrev pub v : ℕ
  v = origin gr t

  module _ (k : ℕ) (b : Bool) (q : Leaves ms (origin (overlaid ms) t) i k b) where
    abbrev pub u : Vec
    u = arrow b (seg (layer ms i) k).up
