-- The points that are collected from held layers, put in order, are the overlay's vertices; the pieces between these, however they were collected, are its edges.
-- Assumes nothing.
use Rattle.std.specs.Prelude.{◌≡◌, ◌≤◌, ◌<◌, ◌++◌, ◌*◌}
use Rattle.std.proofs.Common.{sym, ◌∙◌, ap, subst, arith}
use Rattle.std.proofs.Math.Decide.{dec_lt}
use Rattle.seq.specs.Seq.{List, [], ℕ, length, ℤ}
use Rattle.seq.specs.Terms.{Among}
use Rattle.seq.specs.Table.{length-table}
use Rattle.paper.specs.Limits.{maps, overlay_vertices, overlay_edges}
use Rattle.paper.specs.Plane.{whole, head}
use Rattle.paper.specs.Graph.{edge}
use Rattle.paper.specs.Pieces.{layer, the_in_order, vertices_of}
use Rattle.laws_overlay.specs.Vertices.{foot-there, head-there}
use Rattle.laws_cut.specs.Between.{vertices-rise}
use Rattle.graph.specs.Flat.{the_point_at, carrier_at, Points}
use Rattle.overlay_cut.specs.Points.{points_of, Once}
use Rattle.overlay_cut.specs.Collecting.{gathered}
use Rattle.overlay_cut.specs.Crossed.{cross_all}
use Rattle.overlay_cut.specs.Between.{InRowOrder, EndsIn, Ended}
use Rattle.overlay_cut.specs.Cuts.{cut_all}
use Rattle.overlay_cut.specs.PieceRows.{pieces_in}
use Rattle.overlay_cut.specs.Cutting.{puts}
use Rattle.overlay_cut.specs.Laws.Holds.{owner}
use Rattle.overlay_cut.specs.Laws.VerticesAre.{Vertices, vertices-are, vertices_over}
use Rattle.overlay_cut.specs.Laws.EdgesAre.{edges_are, edges_over}
use Rattle.overlay_maps.specs.Held.{vertex_start, edge_start, held_maps, Held}
use Rattle.overlay_maps.specs.Layers.{Layers}
use Rattle.overlay_graph.specs.Laws.Standing.{keep, holds, held-count, vertices-near, unordered_near}
use Rattle.overlay_graph.specs.Collected.{CollectedOf}
use Rattle.overlay_graph.specs.Cut.{cut_by, CutOf}

-- the n points in a table with room for so many are those that are collected
abbrev pub Collected : Layers → ℕ → List ℤ → ℕ → Type 0
Collected l room out n = points_of out n ≡ gathered room [] (points_of l.corners (vertex_start l maps) ++ cross_all l.carriers l.edges)

module _ (l : Layers) (H : Held l) (room : ℕ) (out : List ℤ) (n : ℕ) (e : Collected l room out n) where
  -- the table is not full
  module _ (few : n < room) where
    each : Vertices (held_maps l) out n
    each = vertices-are (holds l H) (keep l H) room out n e few

    pub collected-once : Once (points_of out n)
    collected-once = each.once

    pub collected-near : 4 * n ≤ length out → Points out n
    collected-near h = unordered_near l H out n h each

    -- put in order
    pub ordered_is : (ps : List ℤ) → points_of ps n ≡ the_in_order (points_of out n) → CollectedOf (held_maps l) room ps n
    ordered_is ps o = record { vertices-are = λ h. o ∙ each.ordered; vertices_over = λ h. absurd (omega arith) }

  -- it is: no more is said
  pub collected_over : room ≤ n → (ps : List ℤ) → CollectedOf (held_maps l) room ps n
  collected_over more ps = record { vertices-are = λ h. absurd (omega arith); vertices_over = λ h. vertices_over (holds l H) (keep l H) room out n e h }

-- ── the pieces between the vertices ──

module _ (l : Layers) (H : Held l) (room : ℕ) (ps : List ℤ) (n : ℕ) (v : CollectedOf (held_maps l) room ps n) where
  module _ (few : n < room) where
    pub ordered-near : 4 * n ≤ length ps → Points ps n
    ordered-near h = vertices-near l H ps n h (v.vertices-are few)

    -- they stand in point order, and the ends of all edges among them
    pub ordered-rise : InRowOrder ps n
    ordered-rise = record { rises = vertices-rise (held_maps l) (keep l H) (the_point_at ps) n (v.vertices-are few) }

    pub ordered-ended : Ended ps n l.carriers (edge_start l maps)
    ordered-ended = record {
      ends = λ k h.
          let o = owner (holds l H) maps k (omega arith) h in
          let i : o.map < length (held_maps l) = omega (arith, o.earlier, held-count l) in
          let e : carrier_at l.carriers k ≡ (edge (layer (held_maps l) o.map).graph o.number).carrier = ap (carrier_at l.carriers) o.is ∙ (holds l H).carriers-are o.map o.number o.earlier o.below in
          subst (EndsIn ps n) (sym e)
          (record {
            low = subst (Among (whole (edge (layer (held_maps l) o.map).graph o.number).carrier.foot)) (sym (v.vertices-are few)) (foot-there (held_maps l) (keep l H) o.map o.number i o.below);
            high = subst (Among (whole (head (edge (layer (held_maps l) o.map).graph o.number).carrier))) (sym (v.vertices-are few)) (head-there (held_maps l) (keep l H) o.map o.number i o.below);
          });
    }

    -- the pieces between them, in a table that is not full, or has room for more than the overlay may have
    pub cut_is : (edge-room : ℕ) (rows : List ℕ) (r : ℕ) → pieces_in rows r ≡ puts edge-room [] (cut_all ps n l.carriers l.edges) → (edge-room ≤ r → overlay_edges < edge-room) → CutOf (held_maps l) (cut_by n ps r rows)
    cut_is edge-room rows r p roomy =
        let vs = vertices_of (held_maps l) in
        let is : points_of ps n ≡ vs = v.vertices-are few in
        let many : n ≡ length vs = sym (length-table (the_point_at ps) n) ∙ ap length is in
        elim (dec_lt r edge-room) [
          | yes q ↦ let all = edges_are ps n (holds l H) edge-room vs is rows r p q in record {
            vertices-are = λ h. is;
            vertices_over = λ h. omega (arith, many);
            edges_are = λ h k. all.are;
            edges_over = λ h k. omega (arith, all.many);
          }
          | no q ↦ let more = edges_over ps n (holds l H) edge-room vs is rows r p (omega arith) in let most = roomy (omega arith) in record {
            vertices-are = λ h. is;
            vertices_over = λ h. omega (arith, many);
            edges_are = λ h k. absurd (omega (arith, most));
            edges_over = λ h k. omega (arith, most, more);
          }
        ]

  -- more vertices than the overlay may have: nothing is said of pieces
  pub cut_over : overlay_vertices < room → room ≤ n → (rows : List ℕ) (r : ℕ) → CutOf (held_maps l) (cut_by n ps r rows)
  cut_over roomy more rows r = record {
    vertices-are = λ h. absurd (omega arith);
    vertices_over = λ h. omega (arith, v.vertices_over more);
    edges_are = λ h q. absurd (omega arith);
    edges_over = λ h q. absurd (omega arith);
  }
