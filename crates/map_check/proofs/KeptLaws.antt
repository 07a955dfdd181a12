-- A map file in which rules 1 to 7 find nothing has its counts within the limits, its corners within range, and ends that name vertices. Assumes nothing.
use Rattle.std.specs.Prelude.{◌||◌, ◌+◌, ◌*◌}
use mathlib.Core.Path.{◌≡◌, sym, ap, ◌∙◌}
use Prim.Native.Nat.{◌≤◌, ◌<◌}
use borrow.Author.Tests.{ltb-false}
use Rattle.seq.specs.Seq.{false, none, List, ℕ, ltb, length, nat_abs}
use Rattle.seq.specs.Tests.{or_false}
use Rattle.paper.specs.Limits.{map_vertices, map_edges, reach}
use Rattle.paper.specs.Refusal.{first_of}
use Rattle.paper.specs.Graph.{Graph, edge_count}
use Rattle.paper.specs.Map.{vertex_count, edges_in, corner_at, origin_at, map_of, form_faults, part_faults, too_far, doubled, bad_ends}
use Rattle.paper.specs.Plane.{Pt}
use Rattle.plane.specs.Bounds.{Corner}
use Rattle.laws_refusals.specs.Refusals.{nothing, given_none, least_none_is}
use Rattle.laws_graph.specs.Laid.{Laid}
use Rattle.laws_graph.specs.Reading.{points-count, edges-count, point_at, from_at, to_at}
use Rattle.laws_graph.specs.Rules.{ends_are, tests-laid}
use Rattle.map_check.specs.Laws.Kept.{Kept}

module _ (s : List ℕ) where
  abbrev g : Graph
  g = (map_of s).graph

  -- ── rules 1 to 4 ──

  module _ (form : first_of (form_faults s) ≡ none) where
    few : (ltb map_vertices (vertex_count s) ≡ false) × (ltb map_edges (edges_in s) ≡ false)
    few = or_false (ltb map_vertices (vertex_count s)) (ltb map_edges (edges_in s)) (given_none 3 0 _ (nothing (form_faults s) form).1.1.0)

    pub few_vertices : vertex_count s ≤ map_vertices
    few_vertices = ltb-false map_vertices (vertex_count s) few.0

    pub few_edges : edges_in s ≤ map_edges
    few_edges = ltb-false map_edges (edges_in s) few.1

  -- ── 5 and 7 of one vertex or edge ──

  near_by : (v : ℕ) → v < vertex_count s → too_far g v ≡ false → Corner (corner_at s v)
  near_by v l e =
      let a = corner_at s v in
      let o = or_false (ltb reach (nat_abs a.x)) (ltb reach (nat_abs a.y)) (ap (λ (p : Pt). ltb reach (nat_abs p.X) || ltb reach (nat_abs p.Y)) (sym (point_at s v l)) ∙ e) in
      record { x_is = ltb-false reach (nat_abs a.x) o.0; y_is = ltb-false reach (nat_abs a.y) o.1 }

  ends_by : (k : ℕ) → k < edges_in s → bad_ends g k ≡ false → (origin_at s (2 * k) < vertex_count s) × (origin_at s (2 * k + 1) < vertex_count s)
  ends_by k l e =
      let r = ends_are g k e in
      let n = points-count s in
      (coe 0 1 (i. from_at s k l i < n i) r.0, coe 0 1 (i. to_at s k l i < n i) r.1)

  -- ── all of them ──

  module _ (form : first_of (form_faults s) ≡ none) (parts : first_of (part_faults (map_of s).graph) ≡ none) where
    pub kept : Kept s
    kept =
        let n = nothing (part_faults g) parts in
        let far = least_none_is 5 (too_far g) (length g.points) n.0 in
        let ends = least_none_is 7 (bad_ends g) (edge_count g) n.1.1.0 in
        record {
          few_vertices = few_vertices form;
          few_edges = few_edges form;
          near = λ v l. near_by v l (far v (rw (points-count s) l));
          from = λ k l. (ends_by k l (ends k (rw (edges-count s) l))).0;
          to = λ k l. (ends_by k l (ends k (rw (edges-count s) l))).1;
        }

    -- its graph is laid in corners
    pub laid_in_corners : Laid (map_of s).graph
    laid_in_corners =
        let n = nothing (part_faults g) parts in
        tests-laid s (least_none_is 6 (doubled g) (length g.points) n.1.0) (least_none_is 7 (bad_ends g) (edge_count g) n.1.1.0)
