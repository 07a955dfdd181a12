-- What a graph in flat tables holds, cell by cell: `flat_graph` at each vertex, edge and half-edge is what stands in its row. Assumes nothing.
use Rattle.std.specs.Prelude.{◌≡◌, ◌<◌, ◌*◌, ◌/◌}
use Rattle.std.proofs.Common.{sym, ◌∙◌, ap, arith}
use Rattle.seq.specs.Seq.{List, ℕ, length, ℤ}
use Rattle.seq.specs.Table.{length-table, table_at}
use Rattle.paper.specs.Plane.{Pt, Seg, whole, nowhere, the_left_by}
use Rattle.paper.specs.Graph.{Edge, edge_count, the_half_count, point, edge, no_edge, origin, start, upward, left_of}
use Rattle.laws_graph.specs.Halves.{Which, first, second, which, origin_first, origin-second}
use Rattle.graph.specs.Flat.{the_point_at, carrier_at, origin_at, the_edge_at, flat_graph, Origins}

module _ (ps : List ℤ) (os : List ℕ) (cs : List ℤ) (n e : ℕ) where
  pub flat-points : length (flat_graph ps os cs n e).points ≡ n
  unfolding flat_graph
  flat-points = length-table (the_point_at ps) n

  pub flat-edges : edge_count (flat_graph ps os cs n e) ≡ e
  unfolding flat_graph
  flat-edges = length-table (the_edge_at os cs) e

  pub flat-halves : the_half_count (flat_graph ps os cs n e) ≡ 2 * e
  flat-halves = ap (λ (k : ℕ). 2 * k) flat-edges

  pub flat-point : (v : ℕ) → v < n → point (flat_graph ps os cs n e) v ≡ the_point_at ps v
  unfolding flat_graph
  flat-point v l = table_at (the_point_at ps) n v (whole nowhere) l

  pub flat-edge : (k : ℕ) → k < e → edge (flat_graph ps os cs n e) k ≡ the_edge_at os cs k
  unfolding flat_graph
  flat-edge k l = table_at (the_edge_at os cs) e k no_edge l

  pub flat-carrier : (k : ℕ) → k < e → (edge (flat_graph ps os cs n e) k).carrier ≡ carrier_at cs k
  flat-carrier k l = ap (λ (x : Edge). x.carrier) (flat-edge k l)

  pub flat-upward : (k : ℕ) → k < e → upward (flat_graph ps os cs n e) k ≡ (carrier_at cs k).up
  flat-upward k l = ap (λ (x : Edge). x.carrier.up) (flat-edge k l)

  pub flat_left : (p : Pt) (k : ℕ) → k < e → left_of (flat_graph ps os cs n e) p k ≡ the_left_by (carrier_at cs k) p
  flat_left p k l = ap (λ (s : Seg). the_left_by s p) (flat-carrier k l)

  origin_by : (h : ℕ) → h < 2 * e → Which h → origin (flat_graph ps os cs n e) h ≡ origin_at os h
  origin_by h l (first q) =
      ap (origin (flat_graph ps os cs n e)) q ∙ origin_first (h / 2) (flat_graph ps os cs n e)
      ∙ ap (λ (x : Edge). x.from) (flat-edge (h / 2) (omega arith)) ∙ ap (origin_at os) (sym q)
  origin_by h l (second q) =
      ap (origin (flat_graph ps os cs n e)) q ∙ origin-second (h / 2) (flat_graph ps os cs n e)
      ∙ ap (λ (x : Edge). x.to) (flat-edge (h / 2) (omega arith)) ∙ ap (origin_at os) (sym q)

  pub flat_origin : (h : ℕ) → h < 2 * e → origin (flat_graph ps os cs n e) h ≡ origin_at os h
  flat_origin h l = origin_by h l (which h)

  pub flat_start : Origins os (2 * e) n → (h : ℕ) → h < 2 * e → start (flat_graph ps os cs n e) h ≡ the_point_at ps (origin_at os h)
  flat_start o h l = ap (point (flat_graph ps os cs n e)) (flat_origin h l) ∙ flat-point (origin_at os h) (o.named h l)
