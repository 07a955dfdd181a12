-- What the mended file holds, of a file that can be mended: its counts, each kept vertex at its corner, each kept edge with its labels and between the same two points,
-- and nothing else. Then that it is clean. Assumes nothing.
use Rattle.std.specs.Prelude.{◌≡◌, refl, ◌⊎◌, ◌≤◌, ◌<◌, ◌+◌, ◌*◌, ◌^◌}
use Rattle.std.proofs.Common.{sym, ◌∙◌, ap, subst, inl, inr, ⊎_elim, arith, lt-ltb}
use Rattle.std.proofs.Math.Decide.{dec_lt}
use Rattle.seq.specs.Seq.{Bool, true, List, ℕ, length, get_or, count, position, nat_abs, ℤ, pos, negsuc}
use Rattle.seq.specs.Terms.{Among}
use Rattle.seq.specs.Tests.{clash, not-true}
use Rattle.seq.specs.Count.{count-le, count-rises, count_below}
use Rattle.seq.specs.Select.{select_has, select_at, select-nth, length-select, position-count}
use Rattle.seq.specs.Position.{among-position, position_at}
use Rattle.paper.specs.Limits.{reach}
use Rattle.paper.specs.Plane.{Vec, Pt, whole, same}
use Rattle.paper.specs.Graph.{Graph, point, edge}
use Rattle.paper.specs.Bytes.{ascii, u16, the_fits_signed}
use Rattle.paper.specs.Map.{Map, corner, map_of, label, vertex_count, edges_in, corner_at, vertex_place, half_place, map_length}
use Rattle.laws_plane.specs.Ends.{corner_same}
use Rattle.laws_map.specs.Keeps.{edges, vertices}
use Rattle.laws_map.specs.Rules.{Form}
use Rattle.laws_file.specs.Bytes.{Bytes, number_of, number_below}
use Rattle.laws_file.proofs.Bytes.{signed_of}
use Rattle.laws_file.specs.Stands.{stands_self}
use Rattle.laws_file.specs.Fields.{stands-marked}
use Rattle.paper.specs.Mend.{from_now, to_now, kept_edge, kept_edges, has_edge, kept_vertices, corner_of, edge_row, mended}
use Rattle.laws_mend.specs.MapFile.{Placed, edge_place, length-map-file, map-placed}
use Rattle.laws_mend.specs.Merged.{kept_two, kept_first, is_alike, has_is, is_has, has_self, into-le, into-point, into-eq}
use Rattle.laws_mend.specs.Clean.{Clean, SameEnds, Mendable}
use Rattle.laws_graph.specs.Reading.{points-count, edges-count, corners_in, point-corner, point_at, from_at, to_at, label_at_lem}

near_fits : (z : ℤ) → nat_abs z ≤ reach → the_fits_signed 2 z ≡ true
near_fits (pos n) h = lt-ltb n 32768 (omega arith)
near_fits (negsuc n) h = lt-ltb n 32768 (omega arith)

-- points of a file's map that are the same are equal
pub equal-points : (s : List ℕ) (u v : ℕ) → same (point (map_of s).graph u) (point (map_of s).graph v) ≡ true → point (map_of s).graph u ≡ point (map_of s).graph v
equal-points s u v e =
    point-corner s u ∙ ap whole (corner_same (corner (corners_in s) u) (corner (corners_in s) v) (rw (point-corner s u, point-corner s v) at e)) ∙ sym (point-corner s v)

module _ (s : List ℕ) where
  abbrev m : Map
  m = map_of s

  abbrev g : Graph
  g = (map_of s).graph

  -- the kept edges and vertices by their original numbers
  abbrev ks : List ℕ
  ks = kept_edges (map_of s).graph

  abbrev vs : List ℕ
  vs = kept_vertices (map_of s).graph

  abbrev kept_v : ℕ → Bool
  kept_v = has_edge (map_of s).graph (kept_edges (map_of s).graph)

  abbrev kept_e : ℕ → Bool
  kept_e = kept_edge (map_of s).graph

  abbrev t : List ℕ
  t = mended (map_of s)

  abbrev c : ℕ → Vec
  c i = corner_of (map_of s).graph (get_or vs i 0)

  abbrev f : ℕ → List ℕ
  f k = edge_row (map_of s) vs (get_or ks k 0)

  P : Placed (length vs) (length ks) c f t
  P = map-placed (length vs) (length ks) c f (λ k. refl) t (stands_self t)

  -- ── the vertices and edges of the mended file by their original numbers ──

  few_vertices : length vs ≤ vertices (map_of s)
  few_vertices = omega (arith, length-select kept_v (vertices m), count-le kept_v (vertices m))

  few_edges : length ks ≤ edges (map_of s)
  few_edges = omega (arith, length-select kept_e (edges m), count-le kept_e (edges m))

  pub vertex_of_lem : (i : ℕ) → i < length vs → (get_or vs i 0 < vertices (map_of s)) × (kept_v (get_or vs i 0) ≡ true) × (count kept_v (get_or vs i 0) ≡ i)
  vertex_of_lem i l = select-nth kept_v (vertices m) i 0 (omega (arith, length-select kept_v (vertices m)))

  pub edge_of : (k : ℕ) → k < length ks → (get_or ks k 0 < edges (map_of s)) × (kept_e (get_or ks k 0) ≡ true) × (count kept_e (get_or ks k 0) ≡ k)
  edge_of k l = select-nth kept_e (edges m) k 0 (omega (arith, length-select kept_e (edges m)))

  module _ (M : Mendable s) (B : Bytes s) where
    equal : (u v : ℕ) → same (point (map_of s).graph u) (point (map_of s).graph v) ≡ true → point (map_of s).graph u ≡ point (map_of s).graph v
    equal = equal-points s

    vertex_limit : vertices (map_of s) ≤ 200
    vertex_limit = omega (arith, points-count s, M.form.few_vertices)

    edge_limit : edges (map_of s) ≤ 300
    edge_limit = omega (arith, edges-count s, M.form.few_edges)

    -- ── the counts ──

    pub mended-vertices : vertex_count t ≡ length vs
    mended-vertices = number_of 2 (length vs) t 5 (omega (arith, few_vertices, vertex_limit)) P.vertices_at

    pub mended-edges : edges_in t ≡ length ks
    mended-edges = number_of 2 (length ks) t 7 (omega (arith, few_edges, edge_limit)) P.edges_at_lem

    pub vertices-now : vertices (map_of t) ≡ length vs
    vertices-now = points-count t ∙ mended-vertices

    pub edges-now : edges (map_of t) ≡ length ks
    edges-now = edges-count t ∙ mended-edges

    mended-form : Form t
    mended-form = record {
      long = omega (arith, long);
      mark = stands-marked (ascii "ZMP") t 0 P.mark;
      version = number_of 2 1 t 3 (omega arith) P.version_at;
      few_vertices = omega (arith, mended-vertices, few_vertices, vertex_limit);
      few_edges = omega (arith, mended-edges, few_edges, edge_limit);
      length_is = long ∙ whole_long;
    }
      where
        long : length t ≡ edge_place (length vs) (length ks)
        long = length-map-file (length vs) (length ks) c f (λ k. refl)

        whole_long : edge_place (length vs) (length ks) ≡ map_length t
        whole_long = omega (arith, mended-vertices, mended-edges)

    -- ── vertices ──

    -- "No corner that stays moves"
    corner-now : (i : ℕ) → i < length vs → corner_at t i ≡ corner_of (map_of s).graph (get_or vs i 0)
    corner-now i l = λ z. record {
      x = signed_of 2 t (vertex_place i) (point g (get_or vs i 0)).X (near_fits (point g (get_or vs i 0)).X (M.x_near (get_or vs i 0) (vertex_of_lem i l).0)) (P.x_at i l) z;
      y = signed_of 2 t (vertex_place i + 2) (point g (get_or vs i 0)).Y (near_fits (point g (get_or vs i 0)).Y (M.y_near (get_or vs i 0) (vertex_of_lem i l).0)) (P.y_at i l) z;
    }

    whole-point : (v : ℕ) → whole (corner_of (map_of s).graph v) ≡ point (map_of s).graph v
    whole-point v = subst (λ (p : Pt). record { X = p.X; Y = p.Y; D = pos 1 } ≡ p) (sym (point-corner s v)) refl

    pub point-now : (i : ℕ) → i < length vs → point (map_of t).graph i ≡ point (map_of s).graph (get_or vs i 0)
    point-now i l = point_at t i (rw mended-vertices l) ∙ ap whole (corner-now i l) ∙ whole-point (get_or vs i 0)

    -- ── edges ──

    module _ (k : ℕ) (l : k < length ks) where
      abbrev old : ℕ
      old = get_or ks k 0

      from_among : Among (from_now (map_of s).graph old) vs
      from_among = select_has kept_v (vertices m) (from_now g old) (omega (arith, into-le g (edge g old).from, M.from_below old (edge_of k l).0)) (is_has g (from_now g old) old (edge_of k l).0 (edge_of k l).1 (inl refl))

      to_among : Among (to_now (map_of s).graph old) vs
      to_among = select_has kept_v (vertices m) (to_now g old) (omega (arith, into-le g (edge g old).to, M.to_below old (edge_of k l).0)) (is_has g (to_now g old) old (edge_of k l).0 (edge_of k l).1 (inr refl))

      from_there : position (from_now (map_of s).graph old) vs < length vs
      from_there = among-position (from_now g old) vs from_among

      to_there : position (to_now (map_of s).graph old) vs < length vs
      to_there = among-position (to_now g old) vs to_among

      small-label : (h : ℕ) → h < 2 * edges (map_of s) → label (map_of s) h < 256 ^ 2
      small-label h b = let e = label_at_lem s h (omega (arith, edges-count s)) in rw e (number_below 2 s (half_place s h + 4) B)

      field-now : (i j : ℕ) → j < 4 → i ≡ edge_place (length vs) k + 2 * j → get_or (f k) j 0 < 256 ^ 2 → u16 t i ≡ get_or (f k) j 0
      field-now i j b q h = ap (u16 t) q ∙ number_of 2 (get_or (f k) j 0) t (edge_place (length vs) k + 2 * j) h (P.edge_at k j l b)

      now : k < edges_in t
      now = rw mended-edges l

      from_now_lem : (edge (map_of t).graph k).from ≡ position (from_now (map_of s).graph old) vs
      from_now_lem = from_at t k now ∙ field-now (half_place t (2 * k)) 0 (omega arith) (omega (arith, mended-vertices)) (omega (arith, from_there, few_vertices, vertex_limit))

      to_now_lem : (edge (map_of t).graph k).to ≡ position (to_now (map_of s).graph old) vs
      to_now_lem = to_at t k now ∙ field-now (half_place t (2 * k + 1)) 1 (omega arith) (omega (arith, mended-vertices)) (omega (arith, to_there, few_vertices, vertex_limit))

      -- "no kept label changes"
      pub left_now : label (map_of t) (2 * k) ≡ label (map_of s) (2 * old)
      left_now = label_at_lem t (2 * k) (omega (arith, now)) ∙ field-now (half_place t (2 * k) + 4) 2 (omega arith) (omega (arith, mended-vertices)) (small-label (2 * old) (omega (arith, (edge_of k l).0)))

      pub right_now : label (map_of t) (2 * k + 1) ≡ label (map_of s) (2 * old + 1)
      right_now = label_at_lem t (2 * k + 1) (omega (arith, now)) ∙ field-now (half_place t (2 * k + 1) + 4) 3 (omega arith) (omega (arith, mended-vertices)) (small-label (2 * old + 1) (omega (arith, (edge_of k l).0)))

      -- the ends are at the same points
      pub from_point : point (map_of t).graph (edge (map_of t).graph k).from ≡ point (map_of s).graph (edge (map_of s).graph old).from
      from_point =
          ap (point (map_of t).graph) from_now_lem ∙ point-now (position (from_now g old) vs) from_there
          ∙ ap (point g) (position_at (from_now g old) vs 0 from_there) ∙ into-point g equal (edge g old).from

      pub to_point : point (map_of t).graph (edge (map_of t).graph k).to ≡ point (map_of s).graph (edge (map_of s).graph old).to
      to_point =
          ap (point (map_of t).graph) to_now_lem ∙ point-now (position (to_now g old) vs) to_there
          ∙ ap (point g) (position_at (to_now g old) vs 0 to_there) ∙ into-point g equal (edge g old).to

    -- ── the mended file is clean ──

    -- what has one new number is one
    same_number : (u v : ℕ) → position u vs < length vs → position v vs < length vs → position u vs ≡ position v vs → u ≡ v
    same_number u v a b e = sym (position_at u vs 0 a) ∙ ap (λ (i : ℕ). get_or vs i 0) e ∙ position_at v vs 0 b

    two_vertices : (v u : ℕ) → v < length vs → u < v → point (map_of s).graph (get_or vs v 0) ≡ point (map_of s).graph (get_or vs u 0) → ⊥
    two_vertices v u l j e =
        let lu : u < length vs = omega arith in
        let p = vertex_of_lem v l in
        let q = vertex_of_lem u lu in
        let z : get_or vs v 0 ≡ get_or vs u 0 =
        sym (has_self g equal (get_or vs v 0) p.1) ∙ into-eq g equal (get_or vs v 0) (get_or vs u 0) e ∙ has_self g equal (get_or vs u 0) q.1 in
        let w : v ≡ u = sym p.2 ∙ ap (count kept_v) z ∙ q.2 in
        omega arith

    earlier : (k j : ℕ) → k < length ks → j < k → get_or ks j 0 < get_or ks k 0
    earlier k j l q =
        let lj : j < length ks = omega arith in
        elim (dec_lt (get_or ks j 0) (get_or ks k 0)) [
          | yes r ↦ r
          | no r ↦ absurd (omega (arith, count-rises kept_e (get_or ks k 0) (get_or ks j 0) (omega arith), (edge_of k l).2, (edge_of j lj).2))
        ]

    edges-apart : (k j : ℕ) → k < length ks → j < k → SameEnds (map_of t).graph k j → ⊥
    edges-apart k j l q e = clash (is_alike g (get_or ks k 0) (get_or ks j 0) (go e)) (kept_first g (get_or ks k 0) (edge_of k l).1 (get_or ks j 0) (earlier k j l q))
      where
        lj : j < length ks
        lj = omega arith

        go : SameEnds (map_of t).graph k j → ((from_now g (get_or ks k 0) ≡ from_now g (get_or ks j 0)) × (to_now g (get_or ks k 0) ≡ to_now g (get_or ks j 0))) ⊎ ((from_now g (get_or ks k 0) ≡ to_now g (get_or ks j 0)) × (to_now g (get_or ks k 0) ≡ from_now g (get_or ks j 0)))
        go (inl (a, b)) = inl (
          same_number (from_now g (get_or ks k 0)) (from_now g (get_or ks j 0)) (from_there k l) (from_there j lj) (sym (from_now_lem k l) ∙ a ∙ from_now_lem j lj),
          same_number (to_now g (get_or ks k 0)) (to_now g (get_or ks j 0)) (to_there k l) (to_there j lj) (sym (to_now_lem k l) ∙ b ∙ to_now_lem j lj),
        )
        go (inr (a, b)) = inr (
          same_number (from_now g (get_or ks k 0)) (to_now g (get_or ks j 0)) (from_there k l) (to_there j lj) (sym (from_now_lem k l) ∙ a ∙ to_now_lem j lj),
          same_number (to_now g (get_or ks k 0)) (from_now g (get_or ks j 0)) (to_there k l) (from_there j lj) (sym (to_now_lem k l) ∙ b ∙ from_now_lem j lj),
        )

    -- the new number of an edge that is kept
    pub new_edge : (k : ℕ) → k < edges (map_of s) → kept_e k ≡ true → (count kept_e k < length ks) × (get_or ks (count kept_e k) 0 ≡ k)
    new_edge k l e = (omega (arith, count_below kept_e (edges m) k l e, length-select kept_e (edges m)), select_at kept_e (edges m) k 0 l e)

    pub new_vertex : (v : ℕ) → v < vertices (map_of s) → kept_v v ≡ true → (count kept_v v < length vs) × (get_or vs (count kept_v v) 0 ≡ v)
    new_vertex v l e = (omega (arith, count_below kept_v (vertices m) v l e, length-select kept_v (vertices m)), select_at kept_v (vertices m) v 0 l e)

    is_used : (v : ℕ) → v < length vs → (k : ℕ) × (k < length ks) × ((v ≡ (edge (map_of t).graph k).from) ⊎ (v ≡ (edge (map_of t).graph k).to))
    is_used v l =
        let p = vertex_of_lem v l in
        let (k, b, e, w) = has_is g (get_or vs v 0) p.1 in
        let n = new_edge k b e in
        let place : position (get_or vs v 0) vs ≡ v = position-count kept_v (vertices m) (get_or vs v 0) p.0 p.1 ∙ p.2 in (
          count kept_e k,
          n.0,
          ⊎_elim
              (λ q. inl (sym place ∙ ap (λ (x : ℕ). position x vs) q ∙ ap (λ (x : ℕ). position (from_now g x) vs) (sym n.1) ∙ sym (from_now_lem (count kept_e k) n.0)))
              (λ q. inr (sym place ∙ ap (λ (x : ℕ). position x vs) q ∙ ap (λ (x : ℕ). position (to_now g x) vs) (sym n.1) ∙ sym (to_now_lem (count kept_e k) n.0))) w,
        )

    pub mended-clean : Clean (mended (map_of s))
    mended-clean = record {
      mendable = record {
        form = mended-form;
        x_near = λ v l. let b : v < length vs = rw vertices-now at l in rw (point-now v b) (M.x_near (get_or vs v 0) (vertex_of_lem v b).0);
        y_near = λ v l. let b : v < length vs = rw vertices-now at l in rw (point-now v b) (M.y_near (get_or vs v 0) (vertex_of_lem v b).0);
        from_below = λ k l. let b : k < length ks = rw edges-now at l in rw (vertices-now, from_now_lem k b) (from_there k b);
        to_below = λ k l. let b : k < length ks = rw edges-now at l in rw (vertices-now, to_now_lem k b) (to_there k b);
      };
      single = λ v u l j. let b : v < length vs = rw vertices-now at l in
          not-true (same (point (map_of t).graph v) (point (map_of t).graph u)) (λ e. two_vertices v u b j (sym (point-now v b) ∙ equal-points t v u e ∙ point-now u (omega arith)));
      two_ends = λ k l e. let b : k < length ks = rw edges-now at l in
          kept_two g (get_or ks k 0) (edge_of k b).1 (same_number (from_now g (get_or ks k 0)) (to_now g (get_or ks k 0)) (from_there k b) (to_there k b) (sym (from_now_lem k b) ∙ e ∙ to_now_lem k b));
      used = λ v l. let (k, b, e) = is_used v (rw vertices-now at l) in (k, rw edges-now b, e);
      apart = λ k j l q e. edges-apart k j (rw edges-now at l) q e;
    }
