-- A clean file comes out of mending byte for byte the same (`clean_same`), with an empty list (`clean-entries`). Assumes nothing.
use Rattle.std.specs.Prelude.{◌≡◌, refl, ◌⊎◌, ◌<◌, ◌||◌, ◌&&◌, ◌+◌, ◌*◌}
use Rattle.std.proofs.Common.{sym, ◌∙◌, ap, subst, inl, inr, ⊎_elim, arith, ne_eqb}
use Rattle.seq.specs.Seq.{Bool, true, false, not, List, [], ℕ, zero, suc, length, get_or, position, the_some_below}
use Rattle.seq.specs.Tests.{not-true}
use Rattle.seq.proofs.Least.{no_some}
use Rattle.seq.specs.Count.{count_all}
use Rattle.seq.specs.Select.{position-count, select_all, length_all}
use Rattle.seq.specs.Range.{select_none}
use Rattle.paper.specs.Plane.{Vec, same}
use Rattle.paper.specs.Graph.{Graph, point, edge}
use Rattle.paper.specs.Bytes.{ascii, u16, le, le_signed, signed_at}
use Rattle.paper.specs.Map.{Map, map_of, label, doubled, vertex_count, edges_in, vertex_place, half_place, map_length}
use Rattle.laws_map.specs.Keeps.{edges, vertices}
use Rattle.laws_map.specs.Rules.{Form}
use Rattle.laws_file.specs.Bytes.{Bytes, Stands, le-number, le_signed-signed}
use Rattle.laws_file.specs.Stands.{stands-whole}
use Rattle.laws_file.specs.Fields.{marked-stands}
use Rattle.paper.specs.Mend.{into, from_now, to_now, shrunk, alike, repeated, kept_edge, kept_edges, has_edge, bare, kept_vertices, entries, corner_of, edge_row, mended, map_file}
use Rattle.laws_mend.specs.MapFile.{Placed, edge_place, length-map-file, placed-map}
use Rattle.laws_mend.specs.Merged.{keeps-edge, alike_is, is_has, into-self}
use Rattle.laws_mend.specs.Clean.{Clean, SameEnds}
use Rattle.laws_graph.specs.Reading.{points-count, edges-count, point_at, from_at, to_at, label_at_lem}

module _ (s : List ℕ) (K : Clean s) where
  abbrev m : Map
  m = map_of s

  abbrev g : Graph
  g = (map_of s).graph

  abbrev ks : List ℕ
  ks = kept_edges (map_of s).graph

  abbrev vs : List ℕ
  vs = kept_vertices (map_of s).graph

  -- ── nothing is done in any step ──

  not_doubled : (v : ℕ) → v < vertices (map_of s) → doubled (map_of s).graph v ≡ false
  not_doubled v l = no_some (λ u. same (point g v) (point g u)) v (λ u j. K.single v u l j)

  fixed : (v : ℕ) → v < vertices (map_of s) → into (map_of s).graph v ≡ v
  fixed v l = into-self g v (not_doubled v l)

  from_fixed : (k : ℕ) → k < edges (map_of s) → from_now (map_of s).graph k ≡ (edge (map_of s).graph k).from
  from_fixed k l = fixed (edge g k).from (K.mendable.from_below k l)

  to_fixed : (k : ℕ) → k < edges (map_of s) → to_now (map_of s).graph k ≡ (edge (map_of s).graph k).to
  to_fixed k l = fixed (edge g k).to (K.mendable.to_below k l)

  not_shrunk : (k : ℕ) → k < edges (map_of s) → shrunk (map_of s).graph k ≡ false
  not_shrunk k l = ne_eqb (from_now g k) (to_now g k) (λ e. K.two_ends k l (sym (from_fixed k l) ∙ e ∙ to_fixed k l))

  not_alike : (k j : ℕ) → k < edges (map_of s) → j < k → alike (map_of s).graph k j ≡ false
  not_alike k j l q = not-true (alike g k j) (λ e. K.apart k j l q (go (alike_is g k j e)))
    where
      lj : j < edges (map_of s)
      lj = omega arith

      go : ((from_now g k ≡ from_now g j) × (to_now g k ≡ to_now g j)) ⊎ ((from_now g k ≡ to_now g j) × (to_now g k ≡ from_now g j)) → SameEnds (map_of s).graph k j
      go (inl (e, f)) = inl (sym (from_fixed k l) ∙ e ∙ from_fixed j lj, sym (to_fixed k l) ∙ f ∙ to_fixed j lj)
      go (inr (e, f)) = inr (sym (from_fixed k l) ∙ e ∙ to_fixed j lj, sym (to_fixed k l) ∙ f ∙ from_fixed j lj)

  all_edges : (k : ℕ) → k < edges (map_of s) → kept_edge (map_of s).graph k ≡ true
  all_edges k l = keeps-edge g k (not_shrunk k l) (λ j q. not_alike k j l q)

  all_vertices : (v : ℕ) → v < vertices (map_of s) → has_edge (map_of s).graph (kept_edges (map_of s).graph) v ≡ true
  all_vertices v l =
      let (k, b, e) = K.used v l in
      is_has g v k b (all_edges k b) (⊎_elim (λ q. inl (q ∙ sym (from_fixed k b))) (λ q. inr (q ∙ sym (to_fixed k b))) e)

  not_repeated : (k : ℕ) → k < edges (map_of s) → repeated (map_of s).graph k ≡ false
  not_repeated k l = go (shrunk g k) (the_some_below (alike g k) k) (no_some (alike g k) k (λ j q. not_alike k j l q))
    where
      go : (a b : Bool) → b ≡ false → (not a && b) ≡ false
      go true b e = refl
      go false b e = e

  not_bare : (v : ℕ) → v < vertices (map_of s) → bare (map_of s).graph (kept_edges (map_of s).graph) v ≡ false
  not_bare v l = go (doubled g v) (has_edge g ks v) (all_vertices v l)
    where
      go : (a b : Bool) → b ≡ true → not (a || b) ≡ false
      go true b e = refl
      go false b e = ap not e

  -- "with an empty list"
  pub clean-entries : entries (map_of s).graph ≡ []
  clean-entries =
      rw (select_none (doubled g) (vertices m) not_doubled, select_none (shrunk g) (edges m) not_shrunk, select_none (repeated g) (edges m) not_repeated, select_none (bare g ks) (vertices m) not_bare)

  -- ── and the numbers are as they were ──

  vertices_long : length vs ≡ vertex_count s
  vertices_long = length_all (has_edge g ks) (vertices m) all_vertices ∙ points-count s

  edges_long : length ks ≡ edges_in s
  edges_long = length_all (kept_edge g) (edges m) all_edges ∙ edges-count s

  vertex_is : (i : ℕ) → i < vertex_count s → get_or vs i 0 ≡ i
  vertex_is i l = select_all (has_edge g ks) (vertices m) i all_vertices (rw (points-count s) l)

  edge_is : (k : ℕ) → k < edges_in s → get_or ks k 0 ≡ k
  edge_is k l = select_all (kept_edge g) (edges m) k all_edges (rw (edges-count s) l)

  number_is : (v : ℕ) → v < vertices (map_of s) → position v vs ≡ v
  number_is v l = position-count (has_edge g ks) (vertices m) v l (all_vertices v l) ∙ count_all (has_edge g ks) v (λ k b. all_vertices k (omega arith))

  module _ (B : Bytes s) where
    abbrev F : Form s
    F = K.mendable.form

    abbrev c : ℕ → Vec
    c i = corner_of (map_of s).graph (get_or vs i 0)

    abbrev f : ℕ → List ℕ
    f k = edge_row (map_of s) vs (get_or ks k 0)

    -- a signed number and a number stand where they are read
    signed-stands : (i : ℕ) → Stands s i (le_signed 2 (signed_at 2 s i))
    signed-stands i = rw (le_signed-signed 2 s i B) (le-number 2 s i B)

    there : (i j n : ℕ) → u16 s i ≡ n → i ≡ j → Stands s j (le 2 n)
    there i j n e q = subst (λ (x : ℕ). Stands s j (le 2 x)) (ap (u16 s) (sym q) ∙ e) (le-number 2 s j B)

    module _ (k : ℕ) (l : k < edges_in s) where
      lk : k < edges (map_of s)
      lk = rw (edges-count s) l

      edge-field : (j : ℕ) → j < 4 → Stands s (edge_place (length vs) k + 2 * j) (le 2 (get_or (edge_row (map_of s) vs k) j 0))
      edge-field zero b =
          there (half_place s (2 * k)) (edge_place (length vs) k + 2 * 0) (position (from_now g k) vs)
          (sym (number_is (from_now g k) (rw (from_fixed k lk) (K.mendable.from_below k lk)) ∙ from_fixed k lk ∙ from_at s k l)) (omega (arith, vertices_long))
      edge-field (suc zero) b =
          there (half_place s (2 * k + 1)) (edge_place (length vs) k + 2 * 1) (position (to_now g k) vs)
          (sym (number_is (to_now g k) (rw (to_fixed k lk) (K.mendable.to_below k lk)) ∙ to_fixed k lk ∙ to_at s k l)) (omega (arith, vertices_long))
      edge-field (suc (suc zero)) b = there (half_place s (2 * k) + 4) (edge_place (length vs) k + 2 * 2) (label m (2 * k)) (sym (label_at_lem s (2 * k) (omega arith))) (omega (arith, vertices_long))
      edge-field (suc (suc (suc zero))) b = there (half_place s (2 * k + 1) + 4) (edge_place (length vs) k + 2 * 3) (label m (2 * k + 1)) (sym (label_at_lem s (2 * k + 1) (omega arith))) (omega (arith, vertices_long))
      edge-field (suc (suc (suc (suc j)))) b = absurd (omega arith)

    placed : Placed (length vs) (length ks) c f s
    placed = record {
      mark = marked-stands (ascii "ZMP") s 0 F.mark;
      version_at = there 3 3 1 F.version refl;
      vertices_at = there 5 5 (length vs) (sym vertices_long) refl;
      edges_at_lem = there 7 7 (length ks) (sym edges_long) refl;
      x_at = λ i b. let l : i < vertex_count s = omega (arith, vertices_long) in
          rw (vertex_is i l, point_at s i l) (signed-stands (vertex_place i));
      y_at = λ i b. let l : i < vertex_count s = omega (arith, vertices_long) in
          rw (vertex_is i l, point_at s i l) (signed-stands (vertex_place i + 2));
      edge_at = λ k j b q. let l : k < edges_in s = omega (arith, edges_long) in
          subst (λ (x : ℕ). Stands s (edge_place (length vs) k + 2 * j) (le 2 (get_or (edge_row (map_of s) vs x) j 0))) (sym (edge_is k l)) (edge-field k l j q);
    }

    -- "comes out byte for byte the same"
    pub clean_same : mended (map_of s) ≡ s
    clean_same =
        sym (stands-whole s (map_file (length vs) (length ks) c f) (F.length_is ∙ long ∙ sym (length-map-file (length vs) (length ks) c f (λ k. refl)))
        (placed-map (length vs) (length ks) c f (λ k. refl) s placed))
      where
        long : map_length s ≡ edge_place (length vs) (length ks)
        long = omega (arith, vertices_long, edges_long)
