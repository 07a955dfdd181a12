-- The definitions as simple loops compute them: rows appended where a test holds (`rows-select` of seq), new numbers by a running count, an earlier edge looked for among those that are kept, vertices marked by
-- the edges that are kept. Assumes nothing.
use Rattle.std.specs.Prelude.{◌≡◌, refl, ◌<◌, ◌&&◌, ◌∷◌, ◌++◌, ◌+◌, ◌*◌}
use Rattle.std.proofs.Common.{sym, ◌∙◌, ap, inl, inr, append-nil, arith}
use Rattle.std.proofs.lemmas.List.{map-append}
use Rattle.seq.specs.Seq.{Bool, true, false, cond, not, List, [], ℕ, zero, suc, length, the_some_below, count, select, rows, gather}
use Rattle.seq.specs.Tests.{never, and_both, and_parts, bool-ext}
use Rattle.seq.proofs.Least.{some_has, some_witness}
use Rattle.seq.specs.Rows.{rows_ext}
use Rattle.seq.specs.Select.{select_from_lem, select_has, length-select, position-count, rows-select}
use Rattle.seq.specs.Collected.{in_witness, in_has}
use Rattle.seq.specs.Members.{gather-++}
use Rattle.paper.specs.Graph.{Graph, edge, edge_count}
use Rattle.paper.specs.Bytes.{ascii, le}
use Rattle.paper.specs.Map.{Map, label, doubled}
use Rattle.paper.specs.Mend.{from_now, to_now, shrunk, alike, repeated, kept_edge, kept_edges, ends_at, has_edge, bare, kept_vertices, listed, entries, corner_bytes, corner_of, edge_row, mended, map_file}
use Rattle.laws_mend.specs.Merged.{is_has, into-le}
use Rattle.laws_mend.specs.Listed.{repeats-kept}

-- the numbers of the entries of one step
abbrev pub flat : List (ℕ × ℕ) → List ℕ
flat es = gather (λ e. e.0 ∷ e.1 ∷ []) es

module _ (step : ℕ) (p : ℕ → Bool) where
  entry-step : (n : ℕ) (l r : List ℕ) (c : Bool) → flat (listed step l) ≡ r → flat (listed step (cond c (l ++ (n ∷ [])) l)) ≡ r ++ cond c (step ∷ n ∷ []) []
  entry-step n l r false e = e ∙ sym (append-nil r)
  entry-step n l r true e = ap flat (map-append (λ (x : ℕ). (step, x)) l (n ∷ [])) ∙ gather-++ (λ (e : ℕ × ℕ). e.0 ∷ e.1 ∷ []) (listed step l) ((step, n) ∷ []) ∙ ap (λ (z : List ℕ). z ++ (step ∷ n ∷ [])) e

  pub entries-select : (n : ℕ) → flat (listed step (select p n)) ≡ rows (λ v. cond (p v) (step ∷ v ∷ []) []) n
  entries-select zero = refl
  entries-select (suc n) = entry-step n (select p n) (rows (λ v. cond (p v) (step ∷ v ∷ []) []) n) (p n) (entries-select n)

module _ (g : Graph) where
  abbrev v_count : ℕ
  v_count = length g.points

  abbrev e_count : ℕ
  e_count = edge_count g

  -- the whole list: four loops
  pub entries-loops : flat (entries g) ≡
      rows (λ v. cond (doubled g v) (1 ∷ v ∷ []) []) (length g.points)
      ++ rows (λ k. cond (shrunk g k) (2 ∷ k ∷ []) []) (edge_count g)
      ++ rows (λ k. cond (repeated g k) (3 ∷ k ∷ []) []) (edge_count g)
      ++ rows (λ v. cond (bare g (kept_edges g) v) (4 ∷ v ∷ []) []) (length g.points)
  entries-loops =
      let e1 = listed 1 (select (doubled g) v_count) in
      let e2 = listed 2 (select (shrunk g) e_count) in
      let e3 = listed 3 (select (repeated g) e_count) in
      let e4 = listed 4 (select (bare g (kept_edges g)) v_count) in
      gather-++ (λ (e : ℕ × ℕ). e.0 ∷ e.1 ∷ []) (e1 ++ e2 ++ e3) e4
      ∙ ap (λ (r : List ℕ). r ++ flat e4) (gather-++ (λ (e : ℕ × ℕ). e.0 ∷ e.1 ∷ []) (e1 ++ e2) e3 ∙ ap (λ (r : List ℕ). r ++ flat e3) (gather-++ (λ (e : ℕ × ℕ). e.0 ∷ e.1 ∷ []) e1 e2))
      ∙ (λ i. entries-select 1 (doubled g) v_count i ++ entries-select 2 (shrunk g) e_count i ++ entries-select 3 (repeated g) e_count i ++ entries-select 4 (bare g (kept_edges g)) v_count i)

  -- ── step 3 by the edges that are kept so far ──

  pub repeated_by_kept : (k : ℕ) → repeated g k ≡ (not (shrunk g k) && the_some_below (λ j. kept_edge g j && alike g k j) k)
  repeated_by_kept k = go (shrunk g k) refl
    where
      off : (c : Bool) → c ≡ false → the_some_below (alike g k) k ≡ true → (not c && the_some_below (alike g k) k) ≡ true
      off true e f = never (sym e)
      off false e f = f

      there : shrunk g k ≡ false → the_some_below (alike g k) k ≡ true → the_some_below (λ j. kept_edge g j && alike g k j) k ≡ true
      there e f =
          let (j, l, q, a) = repeats-kept g k (off (shrunk g k) e f) in
          some_has (λ j. kept_edge g j && alike g k j) k j l (and_both {a = kept_edge g j} q a)

      back : the_some_below (λ j. kept_edge g j && alike g k j) k ≡ true → the_some_below (alike g k) k ≡ true
      back f =
          let (j, l, q) = some_witness (λ j. kept_edge g j && alike g k j) k f in
          some_has (alike g k) k j l (and_parts (kept_edge g j) (alike g k j) q).1

      go : (c : Bool) → shrunk g k ≡ c → (not c && the_some_below (alike g k) k) ≡ (not c && the_some_below (λ j. kept_edge g j && alike g k j) k)
      go true e = refl
      go false e = bool-ext (the_some_below (alike g k) k) (the_some_below (λ j. kept_edge g j && alike g k j) k) (there e) back

  -- ── step 4 by marks: an edge that is kept marks its two ends ──

  pub has_by_marks : (v : ℕ) → has_edge g (kept_edges g) v ≡ the_some_below (λ k. kept_edge g k && ends_at g v k) (edge_count g)
  has_by_marks v =
      bool-ext (has_edge g (kept_edges g) v) (the_some_below (λ k. kept_edge g k && ends_at g v k) e_count)
      (λ e. let (k, l, q) = witness e in some_has (λ k. kept_edge g k && ends_at g v k) e_count k l q)
      (λ e. let (k, l, q) = some_witness (λ k. kept_edge g k && ends_at g v k) e_count e in
      let r = and_parts (kept_edge g k) (ends_at g v k) q in in_has (ends_at g) v k (kept_edges g) (select_has (kept_edge g) e_count k l r.0) r.1)
    where
      witness : has_edge g (kept_edges g) v ≡ true → (k : ℕ) × (k < edge_count g) × ((kept_edge g k && ends_at g v k) ≡ true)
      witness e =
          let (k, i, q) = in_witness (ends_at g) v (kept_edges g) e in
          let r = select_from_lem (kept_edge g) e_count k i in
          (k, r.0, and_both {a = kept_edge g k} r.1 q)

-- ── the file ──

module _ (m : Map) where
  abbrev gr : Graph
  gr = m.graph

  abbrev kept_v : ℕ → Bool
  kept_v = has_edge m.graph (kept_edges m.graph)

  -- the four numbers of edge k: new numbers are how many vertices are kept before
  abbrev pub counted_row : ℕ → List ℕ
  counted_row k =
      count (has_edge m.graph (kept_edges m.graph)) (from_now m.graph k) ∷ count (has_edge m.graph (kept_edges m.graph)) (to_now m.graph k)
      ∷ label m (2 * k) ∷ label m (2 * k + 1) ∷ []

  module _ (from_below : (k : ℕ) → k < edge_count m.graph → (edge m.graph k).from < length m.graph.points) (to_below : (k : ℕ) → k < edge_count m.graph → (edge m.graph k).to < length m.graph.points) where
    row_is : (k : ℕ) → k < edge_count m.graph → kept_edge m.graph k ≡ true → edge_row m (kept_vertices m.graph) k ≡ counted_row k
    row_is k l e =
        let a = position-count kept_v (length gr.points) (from_now gr k) (omega (arith, into-le gr (edge gr k).from, from_below k l)) (is_has gr (from_now gr k) k l e (inl refl)) in
        let b = position-count kept_v (length gr.points) (to_now gr k) (omega (arith, into-le gr (edge gr k).to, to_below k l)) (is_has gr (to_now gr k) k l e (inr refl)) in
        (λ i. a i ∷ b i ∷ label m (2 * k) ∷ label m (2 * k + 1) ∷ [])

    pick-step : (k : ℕ) (c : Bool) (x y : List ℕ) → (c ≡ true → x ≡ y) → cond c (gather (le 2) x) [] ≡ cond c (gather (le 2) y) []
    pick-step k true x y h = ap (gather (le 2)) (h refl)
    pick-step k false x y h = refl

    -- the mended file: counts, a loop over the vertices, a loop over the edges
    pub mended-loops : mended m ≡
        ascii "ZMP" ++ gather (le 2) (1 ∷ count (has_edge m.graph (kept_edges m.graph)) (length m.graph.points) ∷ count (kept_edge m.graph) (edge_count m.graph) ∷ [])
        ++ rows (λ v. cond (has_edge m.graph (kept_edges m.graph) v) (corner_bytes (corner_of m.graph v)) []) (length m.graph.points)
        ++ rows (λ k. cond (kept_edge m.graph k) (gather (le 2) (counted_row k)) []) (edge_count m.graph)
    unfolding map_file
    mended-loops = λ i.
        ascii "ZMP" ++ gather (le 2) (1 ∷ length-select kept_v (length gr.points) i ∷ length-select (kept_edge gr) (edge_count gr) i ∷ [])
        ++ rows-select (λ v. corner_bytes (corner_of gr v)) kept_v (length gr.points) i
        ++ (rows-select (λ k. gather (le 2) (edge_row m (kept_vertices gr) k)) (kept_edge gr) (edge_count gr)
        ∙ rows_ext (λ k. cond (kept_edge gr k) (gather (le 2) (edge_row m (kept_vertices gr) k)) []) (λ k. cond (kept_edge gr k) (gather (le 2) (counted_row k)) []) (edge_count gr)
        (λ k l. pick-step k (kept_edge gr k) (edge_row m (kept_vertices gr) k) (counted_row k) (row_is k l))) i
