-- The four steps as the code computes them, on flat tables: `ps` the points and `os` the origins of a map that is read, `is` the vertex into which each is
-- merged, `t` the ends of the half-edges after step 1, and tables of steps. Then what a file is refused for before any room. On the tables of a map these are the definitions of 02
-- (proofs/TableLaws.antt). Assumes nothing.
use Rattle.std.specs.Prelude.{◌&&◌, ◌||◌, ◌∷◌, ◌++◌, ◌+◌, ◌*◌}
use Rattle.seq.specs.Seq.{Bool, cond, not, List, [], Option, ℕ, ltb, leb, eqb, length, get_or, ℤ, least, the_some_below}
use Rattle.paper.specs.Graph.{edge_count}
use Rattle.paper.specs.Map.{map_of, form_faults, too_far}
use Rattle.paper.specs.Mend.{no_vertex}
use Rattle.paper.specs.Refusal.{first_at, Refusal}
use Rattle.graph.specs.Flat.{origin_at}
use Rattle.map_check.specs.Parts.{far_at, lies_on}
use Rattle.mend.specs.Keys.{edge_key}

-- 1: the lowest vertex at the point of v
abbrev pub into_at : List ℤ → ℕ → ℕ
into_at ps v = least (lies_on ps v) v

abbrev pub merged_in : List ℕ → ℕ → Bool
merged_in is v = ltb (get_or is v 0) v

-- the vertex that half-edge h starts from afterwards
abbrev pub now_in : List ℕ → List ℕ → ℕ → ℕ
now_in is os h = get_or is (get_or os h 0) 0

-- 2
abbrev pub shrunk_in : List ℕ → ℕ → Bool
shrunk_in t k = eqb (get_or t (2 * k) 0) (get_or t (2 * k + 1) 0)

-- 3: by the keys of edges k and j
abbrev pub alike_in : List ℕ → ℕ → ℕ → Bool
alike_in t k j = eqb (edge_key t k) (edge_key t j)

abbrev pub repeated_in : List ℕ → ℕ → Bool
repeated_in t k = not (shrunk_in t k) && the_some_below (alike_in t k) k

-- the step that drops an edge, or 0: of one that is shrunk or not, repeated or not
abbrev pub edge_step : Bool → Bool → ℕ
edge_step s r = cond s 2 (cond r 3 0)

-- vertex or edge i is dropped in this step, by a table of steps
abbrev pub step_is : List ℕ → ℕ → ℕ → Bool
step_is ss step i = eqb (get_or ss i 0) step

-- 4: an edge that is kept ends at v, of e edges with the steps es
abbrev pub ends_in : List ℕ → ℕ → ℕ → Bool
ends_in t v k = eqb v (get_or t (2 * k) 0) || eqb v (get_or t (2 * k + 1) 0)

abbrev pub has_in : List ℕ → List ℕ → ℕ → ℕ → Bool
has_in t es e v = the_some_below (λ k. step_is es 0 k && ends_in t v k) e

-- the step that drops a vertex, or 0: of one that has an edge or not, merged or not
abbrev pub vertex_step : Bool → Bool → ℕ
vertex_step h m = cond h 0 (cond m 1 4)

-- ── refusals ──

-- 7 "only for an end that names no vertex", of n
abbrev pub no_vertex_at : List ℕ → ℕ → ℕ → Bool
no_vertex_at os n k = leb n (origin_at os (2 * k)) || leb n (origin_at os (2 * k + 1))

-- 5 and 7 of n vertices and e edges
abbrev pub table_faults : List ℤ → List ℕ → ℕ → ℕ → List (Option Refusal)
table_faults ps os n e = first_at 5 (far_at ps) n ∷ first_at 7 (no_vertex_at os n) e ∷ []

-- 5 and 7 of a file's map
abbrev pub map_faults : List ℕ → List (Option Refusal)
map_faults s = let g = (map_of s).graph in first_at 5 (too_far g) (length g.points) ∷ first_at 7 (no_vertex g) (edge_count g) ∷ []

-- what a file is refused for, whatever is lent
abbrev pub file_faults : List ℕ → List (Option Refusal)
file_faults s = form_faults s ++ map_faults s
