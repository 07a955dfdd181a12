-- The edges that looks read, summed over soundings and maps (02, Ask 8): sums of two lists end to end (`total-++`), and the ceiling, all edges for each sounding (`reads-most`). Over any number of maps. Assumes nothing.
use Rattle.std.specs.Prelude.{◌≡◌, ◌≤◌, ◌∷◌, ◌++◌, ◌+◌, ◌*◌}
use Rattle.std.proofs.Common.{subst, mul-suc, arith}
use Rattle.seq.specs.Seq.{not, List, [], ℕ, length, table}
use Rattle.seq.specs.Total.{total}
use Rattle.seq.specs.Count.{count-le}
use Rattle.seq.specs.Table.{length-table}
use Rattle.paper.specs.Plane.{Vec, whole, below}
use Rattle.paper.specs.Graph.{edge_count, low}
use Rattle.paper.specs.Map.{Map}
use Rattle.paper.specs.Reads.{edges_read, read_for}
use Rattle.paper.specs.Soundings.{soundings_in, sounding_at, read_in}

pub total-++ : {A : Type 0} (f : A → ℕ) (xs ys : List A) → total f (xs ++ ys) ≡ total f xs + total f ys
total-++ f [] ys = omega arith
total-++ f (x ∷ xs) ys = omega (arith, total-++ f xs ys)

-- ── the ceiling ──

-- the edges of all maps
abbrev pub edges_of : List Map → ℕ
edges_of ms = total (λ m. edge_count m.graph) ms

-- "and is never more than the map's edges"
pub read-most : (ms : List Map) (c : Vec) → read_for ms c ≤ edges_of ms
read-most [] c = omega arith
read-most (m ∷ ms) c = omega (arith, count-le (λ k. not (below (whole c) (low m.graph k))) (edge_count m.graph), read-most ms c)

total-most : {A : Type 0} (f : A → ℕ) (k : ℕ) → ((x : A) → f x ≤ k) → (xs : List A) → total f xs ≤ k * length xs
total-most f k h [] = omega arith
total-most f k h (x ∷ xs) = omega (arith, h x, total-most f k h xs, mul-suc k (length xs))

pub reads-most : (ms : List Map) (s : List ℕ) → read_in ms s ≤ edges_of ms * soundings_in s
reads-most ms s =
    subst (λ (n : ℕ). read_in ms s ≤ edges_of ms * n) (length-table (sounding_at s) (soundings_in s))
    (total-most (read_for ms) (edges_of ms) (read-most ms) (table (sounding_at s) (soundings_in s)))
