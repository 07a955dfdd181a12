-- The tables of the map of a file: what was laid over a table stands in it; the tables hold the map's graph (`graph-held`), and where rules 1 to 7 find nothing
-- they are within the bounds that the code over flat tables asks (`held-flat`). Assumes nothing.
use Rattle.std.specs.Prelude.{◌+◌, ◌*◌}
use mathlib.Core.Path.{◌≡◌, refl, sym, ap, ◌∙◌, subst}
use Prim.Native.Nat.{◌≤◌, ◌<◌}
use native.Mathlib.Omega.{arith}
use Rattle.seq.specs.Filled.{length-filled, filled_at, filled-holds, front-table}
use Rattle.seq.specs.Laid.{length-laid, laid_at}
use Rattle.seq.specs.Table.{table_is, length-table}
use Rattle.seq.specs.Seq.{List, ℕ, length, get_or, table, ℤ, pos, cell, filled, laid}
use Rattle.exact.specs.Lowest.{pt}
use Rattle.paper.specs.Plane.{whole, nowhere}
use Rattle.paper.specs.Graph.{Graph, point, edge, no_edge, origin}
use Rattle.paper.specs.Map.{label, label_at, vertex_count, edges_in, map_of}
use Rattle.plane.specs.Values.{seg}
use Rattle.plane.specs.Bounds as Bounds
use Rattle.laws_graph.specs.Halves.{origin_first, origin-second}
use Rattle.laws_graph.specs.Reading.{points-count, edges-count}
use Rattle.graph.specs.Flat.{the_point_at, carrier_at, origin_at, the_edge_at, flat_graph, Flat}
use Rattle.map_file.specs.Rows.{point_row, carrier_row}
use Rattle.map_check.specs.Held.{MapRead}
use Rattle.map_check.specs.Laws.Kept.{Kept}
use Rattle.map_check.proofs.GraphLaws.{point-near, carrier-edge, origin-named}

module _ (s : List ℕ) where
  abbrev g : Graph
  g = (map_of s).graph

  -- ── what was laid ──

  module _ (ps d : List ℤ) (room : 4 * vertex_count s ≤ length d) (is : ps ≡ laid (vertex_count s) (point_row g) d) where
    pub point-held : (v : ℕ) → v < vertex_count s → the_point_at ps v ≡ point g v
    point-held v l = ap (λ (t : List ℤ). the_point_at t v) is ∙ (λ i. pt (at 0 (omega arith) i) (at 1 (omega arith) i) (at 2 (omega arith) i))
      where
        at : (j : ℕ) → j < 4 → cell (pos 0) 4 (laid (vertex_count s) (point_row g) d) v j ≡ get_or (point_row g v) j (pos 0)
        at j b = laid_at 4 (point_row g) (λ k. refl) (vertex_count s) v j d (pos 0) l b

    pub points_long : 4 * vertex_count s ≤ length ps
    points_long = omega (arith, room, ap length is, length-laid 4 (point_row g) (λ k. refl) (vertex_count s) d room)

  module _ (cs d : List ℤ) (room : 4 * edges_in s ≤ length d) (is : cs ≡ laid (edges_in s) (carrier_row g) d) where
    pub carrier-held : (k : ℕ) → k < edges_in s → carrier_at cs k ≡ (edge g k).carrier
    carrier-held k l =
        ap (λ (t : List ℤ). carrier_at t k) is ∙ (λ i. seg (at 0 (omega arith) i) (at 1 (omega arith) i) (at 2 (omega arith) i) (at 3 (omega arith) i))
      where
        at : (j : ℕ) → j < 4 → cell (pos 0) 4 (laid (edges_in s) (carrier_row g) d) k j ≡ get_or (carrier_row g k) j (pos 0)
        at j b = laid_at 4 (carrier_row g) (λ k. refl) (edges_in s) k j d (pos 0) l b

    pub carriers_long : 4 * edges_in s ≤ length cs
    carriers_long = omega (arith, room, ap length is, length-laid 4 (carrier_row g) (λ k. refl) (edges_in s) d room)

  module _ (f : ℕ → ℕ) (os d : List ℕ) (room : 2 * edges_in s ≤ length d) (is : os ≡ filled (2 * edges_in s) f d) where
    pub cell-held : (h : ℕ) → h < 2 * edges_in s → origin_at os h ≡ f h
    cell-held h l = ap (λ (t : List ℕ). get_or t h 0) is ∙ filled_at f (2 * edges_in s) h d 0 l

    pub cells_long : 2 * edges_in s ≤ length os
    cells_long = omega (arith, room, ap length is, length-filled f (2 * edges_in s) d room)

  -- as many labels as half-edges
  pub labels-table : table (label (map_of s)) (2 * edges_in s) ≡ (map_of s).labels
  labels-table = sym (table_is (label (map_of s)) (2 * edges_in s) (map_of s).labels 0 (length-table (label_at s) (2 * edges_in s)) (λ h l. refl))

  -- what `read_map` lays is read
  pub is_read : (ps dp : List ℤ) (os d ls dl : List ℕ) →
      4 * vertex_count s ≤ length dp → 2 * edges_in s ≤ length d → 2 * edges_in s ≤ length dl →
      ps ≡ laid (vertex_count s) (point_row g) dp → os ≡ filled (2 * edges_in s) (origin g) d → ls ≡ filled (2 * edges_in s) (label (map_of s)) dl → MapRead s ps os ls
  is_read ps dp os d ls dl rp ro rl ip io il = record {
    points_long = points_long ps dp rp ip;
    point_is = point-held ps dp rp ip;
    origins_long = cells_long (origin g) os d ro io;
    origin_is = cell-held (origin g) os d ro io;
    labels_long = cells_long (label (map_of s)) ls dl rl il;
    labels-are = front-table (label (map_of s)) ls (2 * edges_in s) (filled-holds (label (map_of s)) ls dl (2 * edges_in s) rl il) ∙ labels-table;
  }

  -- ── the graph ──

  module _ (ps : List ℤ) (os : List ℕ) (cs : List ℤ)
      (P : (v : ℕ) → v < vertex_count s → the_point_at ps v ≡ point g v)
      (O : (h : ℕ) → h < 2 * edges_in s → origin_at os h ≡ origin g h)
      (C : (k : ℕ) → k < edges_in s → carrier_at cs k ≡ (edge g k).carrier) where
    edge-held : (k : ℕ) → k < edges_in s → edge g k ≡ the_edge_at os cs k
    edge-held k l =
        let a = sym (origin_first k g) ∙ sym (O (2 * k) (omega arith)) in
        let b = sym (origin-second k g) ∙ sym (O (2 * k + 1) (omega arith)) in
        λ i. record { from = a i; to = b i; carrier = sym (C k l) i }

    pub graph-held : flat_graph ps os cs (vertex_count s) (edges_in s) ≡ g
    unfolding flat_graph
    graph-held =
        let p = table_is (the_point_at ps) (vertex_count s) g.points (whole nowhere) (points-count s) (λ v l. sym (P v l)) in
        let e = table_is (the_edge_at os cs) (edges_in s) g.edges no_edge (edges-count s) edge-held in
        λ i. record { points = sym p i; edges = sym e i }

    pub held-flat : Kept s → 4 * vertex_count s ≤ length ps → 2 * edges_in s ≤ length os → 4 * edges_in s ≤ length cs → Flat ps os cs (vertex_count s) (edges_in s)
    held-flat kept lp lo lc = record {
      points = record { long = lp; near = λ v l. subst Bounds.Near (sym (P v l)) (point-near s kept v l) };
      origins = record { long = lo; named = λ h l. subst (λ (v : ℕ). v < vertex_count s) (sym (O h l)) (origin-named s kept h l) };
      carriers = record { long = lc; near = λ k l. subst Bounds.Edge (sym (C k l)) (carrier-edge s kept k l) };
    }
