-- The map of a file, read back: its counts are those of the file, and each point, edge, origin and label below them is what the bytes say. The lists of `map_of` are tables, so that each law
-- is a cell of a table. Assumes nothing.
use Rattle.std.specs.Prelude.{◌≡◌, refl, ◌<◌, ◌+◌, ◌*◌, ◌/◌, ◌%◌}
use Rattle.std.proofs.Common.{ap, ◌∙◌, arith, eqb-true}
use Rattle.std.proofs.lemmas.Bool.{eqb-false}
use Rattle.std.proofs.lemmas.List.{length-map}
use Rattle.std.proofs.Math.ListN.{get_or-map}
use Rattle.seq.specs.Seq.{Bool, true, false, cond, List, ℕ, length, table}
use Rattle.seq.specs.Table.{length-table, table_at}
use Rattle.paper.specs.Plane.{Vec, nowhere, whole, between}
use Rattle.paper.specs.Graph.{Edge, edge_count, point, edge, even, no_edge, origin}
use Rattle.paper.specs.Map.{label, corner, edge_between, vertex_count, edges_in, corner_at, origin_at, label_at, map_of}

module _ (s : List ℕ) where
  abbrev pub corners_in : List Vec
  corners_in = table (corner_at s) (vertex_count s)

  abbrev made : ℕ → Edge
  made k = edge_between corners_in (origin_at s (2 * k)) (origin_at s (2 * k + 1))

  -- ── counts ──

  pub points-count : length (map_of s).graph.points ≡ vertex_count s
  points-count = length-map corners_in whole ∙ length-table (corner_at s) (vertex_count s)

  pub edges-count : edge_count (map_of s).graph ≡ edges_in s
  edges-count = length-table made (edges_in s)

  -- ── points ──

  -- every point is a corner, also past the last
  pub point-corner : (v : ℕ) → point (map_of s).graph v ≡ whole (corner corners_in v)
  point-corner v = get_or-map whole corners_in v nowhere

  corner_at_lem : (v : ℕ) → v < vertex_count s → corner corners_in v ≡ corner_at s v
  corner_at_lem v l = table_at (corner_at s) (vertex_count s) v nowhere l

  pub point_at : (v : ℕ) → v < vertex_count s → point (map_of s).graph v ≡ whole (corner_at s v)
  point_at v l = point-corner v ∙ ap whole (corner_at_lem v l)

  -- ── edges ──

  pub edge-made : (k : ℕ) → k < edges_in s → edge (map_of s).graph k ≡ edge_between corners_in (origin_at s (2 * k)) (origin_at s (2 * k + 1))
  edge-made k l = table_at made (edges_in s) k no_edge l

  pub from_at : (k : ℕ) → k < edges_in s → (edge (map_of s).graph k).from ≡ origin_at s (2 * k)
  from_at k l = ap (λ (e : Edge). e.from) (edge-made k l)

  pub to_at : (k : ℕ) → k < edges_in s → (edge (map_of s).graph k).to ≡ origin_at s (2 * k + 1)
  to_at k l = ap (λ (e : Edge). e.to) (edge-made k l)

  -- where both ends name a vertex
  pub carrier_at_lem : (k : ℕ) → k < edges_in s → origin_at s (2 * k) < vertex_count s → origin_at s (2 * k + 1) < vertex_count s →
      (edge (map_of s).graph k).carrier ≡ between (corner_at s (origin_at s (2 * k))) (corner_at s (origin_at s (2 * k + 1)))
  carrier_at_lem k l a b = ap (λ (e : Edge). e.carrier) (edge-made k l) ∙ (λ i. between (corner_at_lem (origin_at s (2 * k)) a i) (corner_at_lem (origin_at s (2 * k + 1)) b i))

  -- ── half-edges ──

  by_parity : (h : ℕ) → h < 2 * edges_in s → (b : Bool) → even h ≡ b → cond b (edge (map_of s).graph (h / 2)).from (edge (map_of s).graph (h / 2)).to ≡ origin_at s h
  by_parity h l true e = let q : 2 * (h / 2) ≡ h = omega (arith, eqb-true (h % 2) 0 e) in from_at (h / 2) (omega arith) ∙ ap (origin_at s) q
  by_parity h l false e = let q : 2 * (h / 2) + 1 ≡ h = omega (arith, eqb-false (h % 2) 0 e) in to_at (h / 2) (omega arith) ∙ ap (origin_at s) q

  pub origin_at_lem : (h : ℕ) → h < 2 * edges_in s → origin (map_of s).graph h ≡ origin_at s h
  origin_at_lem h l = by_parity h l (even h) refl

  pub label_at_lem : (h : ℕ) → h < 2 * edges_in s → label (map_of s) h ≡ label_at s h
  label_at_lem h l = table_at (label_at s) (2 * edges_in s) h 0 l
