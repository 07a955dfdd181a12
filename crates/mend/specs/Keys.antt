-- Pairs of numbers as one number each: a vertex's corner, and the ends of an edge whichever way it runs. That two are equal says what is asked of the pairs
-- (proofs/KeyLaws.antt). Assumes nothing.
use Rattle.std.specs.Prelude.{◌+◌, ◌*◌}
use Rattle.seq.specs.Seq.{Bool, cond, List, ℕ, leb, eqb, get_or, ℤ}
use Rattle.laws_file.specs.Bytes.{wrapped}
use Rattle.map_check.specs.Parts.{corner_in}

-- the corner of vertex v: each coordinate as its two bytes have it
abbrev pub corner_key : List ℤ → ℕ → ℕ
corner_key ps v = wrapped 2 (corner_in ps v).x + 65536 * wrapped 2 (corner_in ps v).y

-- two vertices, the lower number first
abbrev pub pair_key : ℕ → ℕ → ℕ
pair_key a b = cond (leb a b) (65536 * a + b) (65536 * b + a)

-- the ends of edge k
abbrev pub edge_key : List ℕ → ℕ → ℕ
edge_key t k = pair_key (get_or t (2 * k) 0) (get_or t (2 * k + 1) 0)

-- cells i and j are the same
abbrev pub like_in : List ℕ → ℕ → ℕ → Bool
like_in ks i j = eqb (get_or ks i 0) (get_or ks j 0)
