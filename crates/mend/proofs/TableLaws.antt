-- By the tables of a file that can be mended: what is dropped in each step, the mended file and the list are those of its map. Assumes nothing.
use Rattle.std.specs.Prelude.{◌∷◌, ◌++◌, ◌+◌, ◌*◌, ◌-◌}
use mathlib.Core.Path.{◌≡◌, sym, ◌∙◌, ap}
use Prim.Native.Nat.{◌<◌}
use native.Mathlib.Omega.{arith}
use Rattle.seq.specs.Seq.{Bool, cond, List, [], none, ℕ, eqb, length, get_or, ℤ, the_some_below, count, rows, gather}
use Rattle.seq.specs.Count.{count-ext}
use Rattle.seq.specs.Rows.{rows_ext}
use Rattle.seq.specs.Select.{length-select}
use Rattle.paper.specs.Bytes.{ascii, le}
use Rattle.paper.specs.Graph.{Graph, edge_count}
use Rattle.paper.specs.Map.{map_of, vertex_count, edges_in, doubled}
use Rattle.paper.specs.Mend.{from_now, to_now, shrunk, alike, repeated, kept_edge, kept_edges, has_edge, bare, kept_vertices, entries, corner_bytes, corner_of, mended}
use Rattle.paper.specs.Plane.{Pt, vec}
use Rattle.paper.specs.Refusal.{first_of}
use Rattle.laws_refusals.specs.Refusals.{first_none}
use Rattle.laws_graph.specs.Reading.{points-count, edges-count, point_at}
use Rattle.laws_mend.specs.Clean.{Mendable}
use Rattle.laws_mend.specs.Faults.{fault_is}
use Rattle.laws_mend.specs.Kept.{equal-points}
use Rattle.laws_mend.specs.Listed.{step_1, step_2, step_3, step_4, edge-balance, vertex-balance, entries-count}
use Rattle.laws_mend.specs.Loops.{entries-loops, counted_row, mended-loops}
use Rattle.laws_mend.specs.Merged.{self-into, has_self}
use Rattle.mend.specs.Steps.{step_is, file_faults}
use Rattle.mend.specs.Stored.{point_in, row_in, the_edge_in, file_in, entry_in, the_list_count, list_in}
use Rattle.mend.specs.Ready.{Ready}
use Rattle.mend.proofs.StepLaws.{edge-shrunk, edge-repeated, vertex_has, vertex-merged, vertex-bare, from_here, to_here, from_below, to_below, kept_here}

-- a file that is not refused can be mended
pub can-mend : (s : List ℕ) → first_of (file_faults s) ≡ none → Mendable s
can-mend s e = (fault_is 0 0 s 0 0 (first_none (file_faults s) (none ∷ none ∷ []) e)).0

module _ (s : List ℕ) (ps : List ℤ) (ls t ns vs es : List ℕ) (v k : ℕ) (R : Ready s ps ls t ns vs es v k) where
  abbrev g : Graph
  g = (map_of s).graph

  abbrev can : Mendable s
  can = can-mend s R.good

  abbrev n_v : ℕ
  n_v = vertex_count s

  abbrev n_e : ℕ
  n_e = edges_in s

  abbrev kept_v : ℕ → Bool
  kept_v = has_edge (map_of s).graph (kept_edges (map_of s).graph)

  -- ── the steps ──

  kept-edge : (j : ℕ) → j < edges_in s → step_is es 0 j ≡ kept_edge (map_of s).graph j
  kept-edge = kept_here s can t R.ends es R.edge-steps

  shrunk-edge : (j : ℕ) → j < edges_in s → step_is es 2 j ≡ shrunk (map_of s).graph j
  shrunk-edge j l = ap (λ (x : ℕ). eqb x 2) (R.edge-steps.at j l) ∙ edge-shrunk (shrunk g j) (repeated g j)

  repeated-edge : (j : ℕ) → j < edges_in s → step_is es 3 j ≡ repeated (map_of s).graph j
  repeated-edge j l = ap (λ (x : ℕ). eqb x 3) (R.edge-steps.at j l) ∙ edge-repeated (shrunk g j) (the_some_below (alike g j) j)

  kept-vertex : (u : ℕ) → u < vertex_count s → step_is vs 0 u ≡ has_edge (map_of s).graph (kept_edges (map_of s).graph) u
  kept-vertex u l = ap (λ (x : ℕ). eqb x 0) (R.vertex-steps.at u l) ∙ vertex_has (kept_v u) (doubled g u)

  merged-vertex : (u : ℕ) → u < vertex_count s → step_is vs 1 u ≡ doubled (map_of s).graph u
  merged-vertex u l = ap (λ (x : ℕ). eqb x 1) (R.vertex-steps.at u l) ∙ vertex-merged (kept_v u) (doubled g u) (λ e. self-into g u (has_self g (equal-points s) u e))

  bare-vertex : (u : ℕ) → u < vertex_count s → step_is vs 4 u ≡ bare (map_of s).graph (kept_edges (map_of s).graph) u
  bare-vertex u l = ap (λ (x : ℕ). eqb x 4) (R.vertex-steps.at u l) ∙ vertex-bare (kept_v u) (doubled g u)

  -- ── the file ──

  vertices-kept : count (step_is vs 0) (vertex_count s) ≡ count (has_edge (map_of s).graph (kept_edges (map_of s).graph)) (length (map_of s).graph.points)
  vertices-kept = count-ext (step_is vs 0) kept_v n_v kept-vertex ∙ ap (count kept_v) (sym (points-count s))

  edges-kept : count (step_is es 0) (edges_in s) ≡ count (kept_edge (map_of s).graph) (edge_count (map_of s).graph)
  edges-kept = count-ext (step_is es 0) (kept_edge g) n_e kept-edge ∙ ap (count (kept_edge g)) (sym (edges-count s))

  corners-here : rows (point_in ps vs) (vertex_count s) ≡ rows (λ u. cond (has_edge (map_of s).graph (kept_edges (map_of s).graph) u) (corner_bytes (corner_of (map_of s).graph u)) []) (length (map_of s).graph.points)
  corners-here =
      rows_ext (point_in ps vs) (λ u. cond (kept_v u) (corner_bytes (corner_of g u)) []) n_v
      (λ u l. let q = R.corner_is u l ∙ sym (ap (λ (p : Pt). vec p.X p.Y) (point_at s u l)) in λ i. cond (kept-vertex u l i) (corner_bytes (q i)) [])
      ∙ ap (rows (λ u. cond (kept_v u) (corner_bytes (corner_of g u)) [])) (sym (points-count s))

  number-here : (u : ℕ) → u < vertex_count s → get_or ns u 0 ≡ count (has_edge (map_of s).graph (kept_edges (map_of s).graph)) u
  number-here u l = R.numbers.at u l ∙ count-ext (step_is vs 0) kept_v u (λ w b. kept-vertex w (omega arith))

  row_here : (j : ℕ) → j < edges_in s → row_in ls t ns j ≡ counted_row (map_of s) j
  row_here j l =
      let a = ap (λ (u : ℕ). get_or ns u 0) (from_here s can t R.ends j l) ∙ number-here (from_now g j) (from_below s can t R.ends j l) in
      let b = ap (λ (u : ℕ). get_or ns u 0) (to_here s can t R.ends j l) ∙ number-here (to_now g j) (to_below s can t R.ends j l) in
      λ i. a i ∷ b i ∷ R.labels.at (2 * j) (omega arith) i ∷ R.labels.at (2 * j + 1) (omega arith) i ∷ []

  edges-here : rows (the_edge_in ls t ns es) (edges_in s) ≡ rows (λ j. cond (kept_edge (map_of s).graph j) (gather (le 2) (counted_row (map_of s) j)) []) (edge_count (map_of s).graph)
  edges-here =
      rows_ext (the_edge_in ls t ns es) (λ j. cond (kept_edge g j) (gather (le 2) (counted_row (map_of s) j)) []) n_e (λ j l i. cond (kept-edge j l i) (gather (le 2) (row_here j l i)) [])
      ∙ ap (rows (λ j. cond (kept_edge g j) (gather (le 2) (counted_row (map_of s) j)) [])) (sym (edges-count s))

  pub file_is : file_in ps ls t ns vs es (vertex_count s) (edges_in s) ≡ mended (map_of s)
  file_is =
      (λ i. ascii "ZMP" ++ gather (le 2) (1 ∷ vertices-kept i ∷ edges-kept i ∷ []) ++ corners-here i ++ edges-here i)
      ∙ sym (mended-loops (map_of s) can.from_below can.to_below)

  -- ── the list ──

  part : (ss : List ℕ) (step n : ℕ) (p : ℕ → Bool) (m : ℕ) → ((u : ℕ) → u < n → step_is ss step u ≡ p u) → m ≡ n → rows (entry_in ss step) n ≡ rows (λ u. cond (p u) (step ∷ u ∷ []) []) m
  part ss step n p m h e =
      rows_ext (entry_in ss step) (λ u. cond (p u) (step ∷ u ∷ []) []) n (λ u l i. cond (h u l i) (step ∷ u ∷ []) [])
      ∙ ap (rows (λ u. cond (p u) (step ∷ u ∷ []) [])) (sym e)

  pub list_is : list_in vs es (vertex_count s) (edges_in s) ≡ gather (λ e. e.0 ∷ e.1 ∷ []) (entries (map_of s).graph)
  list_is =
      (λ i. part vs 1 n_v (doubled g) (length g.points) merged-vertex (points-count s) i
      ++ part es 2 n_e (shrunk g) (edge_count g) shrunk-edge (edges-count s) i
      ++ part es 3 n_e (repeated g) (edge_count g) repeated-edge (edges-count s) i
      ++ part vs 4 n_v (bare g (kept_edges g)) (length g.points) bare-vertex (points-count s) i)
      ∙ sym (entries-loops g)

  tally : (ss : List ℕ) (step n : ℕ) (p : ℕ → Bool) (m : ℕ) → ((u : ℕ) → u < n → step_is ss step u ≡ p u) → m ≡ n → count (step_is ss step) n ≡ count p m
  tally ss step n p m h e = count-ext (step_is ss step) p n h ∙ ap (count p) (sym e)

  pub list_count : the_list_count vs es (vertex_count s) (edges_in s) ≡ length (entries (map_of s).graph)
  list_count =
      let a = tally vs 1 n_v (doubled g) (length g.points) merged-vertex (points-count s) ∙ sym (step_1 g) in
      let b = tally es 2 n_e (shrunk g) (edge_count g) shrunk-edge (edges-count s) ∙ sym (step_2 g) in
      let c = tally es 3 n_e (repeated g) (edge_count g) repeated-edge (edges-count s) ∙ sym (step_3 g) in
      let d = tally vs 4 n_v (bare g (kept_edges g)) (length g.points) bare-vertex (points-count s) ∙ sym (step_4 g) in
      (λ i. a i + b i + c i + d i) ∙ sym (entries-count g)

  -- as many as are not kept
  pub entries-many : (vertex_count s - v) + (edges_in s - k) ≡ length (entries (map_of s).graph)
  entries-many =
      let a : v ≡ length (kept_vertices g) = R.counted.vertices ∙ vertices-kept ∙ sym (length-select kept_v (length g.points)) in
      let b : k ≡ length (kept_edges g) = R.counted.edges ∙ edges-kept ∙ sym (length-select (kept_edge g) (edge_count g)) in
      let c = vertex-balance g (equal-points s) in
      let d = edge-balance g in
      omega (arith, a, b, c, d, entries-count g, points-count s, edges-count s)
