-- The mended file and the list as the code stores them: rows where a table of steps says so. `ps` has the points, `ls` the labels, `t` the ends after step 1, `ns` the new
-- numbers, `vs` the steps of n vertices and `es` those of e edges. Assumes nothing.
use Rattle.std.specs.Prelude.{◌≡◌, ◌≤◌, ◌∷◌, ◌++◌, ◌+◌, ◌*◌}
use Rattle.seq.specs.Seq.{cond, List, [], ℕ, length, get_or, ℤ, count, rows, gather}
use Rattle.paper.specs.Bytes.{ascii, le}
use Rattle.paper.specs.Mend.{corner_bytes}
use Rattle.map_check.specs.Parts.{corner_in}
use Rattle.mend.specs.Steps.{step_is}

-- ── the file ──

abbrev pub point_in : List ℤ → List ℕ → ℕ → List ℕ
point_in ps vs v = cond (step_is vs 0 v) (corner_bytes (corner_in ps v)) []

abbrev pub row_in : List ℕ → List ℕ → List ℕ → ℕ → List ℕ
row_in ls t ns k = get_or ns (get_or t (2 * k) 0) 0 ∷ get_or ns (get_or t (2 * k + 1) 0) 0 ∷ get_or ls (2 * k) 0 ∷ get_or ls (2 * k + 1) 0 ∷ []

abbrev pub the_edge_in : List ℕ → List ℕ → List ℕ → List ℕ → ℕ → List ℕ
the_edge_in ls t ns es k = cond (step_is es 0 k) (gather (le 2) (row_in ls t ns k)) []

abbrev pub file_in : List ℤ → List ℕ → List ℕ → List ℕ → List ℕ → List ℕ → ℕ → ℕ → List ℕ
file_in ps ls t ns vs es n e =
    ascii "ZMP" ++ gather (le 2) (1 ∷ count (step_is vs 0) n ∷ count (step_is es 0) e ∷ [])
    ++ rows (point_in ps vs) n
    ++ rows (the_edge_in ls t ns es) e

-- v vertices and k edges are kept
pub record Counted (vs es : List ℕ) (n e v k : ℕ) : Type 0 where
  pub vertices_long : n ≤ length vs
  pub edges_long : e ≤ length es
  pub vertices : v ≡ count (step_is vs 0) n
  pub edges : k ≡ count (step_is es 0) e

-- ── the list ──

abbrev pub entry_in : List ℕ → ℕ → ℕ → List ℕ
entry_in ss step i = cond (step_is ss step i) (step ∷ i ∷ []) []

abbrev pub the_list_count : List ℕ → List ℕ → ℕ → ℕ → ℕ
the_list_count vs es n e = count (step_is vs 1) n + count (step_is es 2) e + count (step_is es 3) e + count (step_is vs 4) n

abbrev pub list_in : List ℕ → List ℕ → ℕ → ℕ → List ℕ
list_in vs es n e = rows (entry_in vs 1) n ++ rows (entry_in es 2) e ++ rows (entry_in es 3) e ++ rows (entry_in vs 4) n
