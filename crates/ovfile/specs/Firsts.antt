-- What the search for sound edge records goes by: a table that has in each cell the first half-edge with that follower. The promise on a table is a record,
-- so that a large table of one value is compared by its name and not cell by cell. Assumes nothing.
use Rattle.std.specs.Prelude.{◌≡◌, ◌<◌}
use Rattle.seq.specs.Seq.{List, ℕ, eqb, get_or, least, cell, firsts}
use Rattle.paper.specs.Tables.{half_width}

-- the cell j of each half-edge's row
abbrev pub column : List ℕ → ℕ → ℕ → ℕ
column hs j h = cell 0 half_width hs h j

-- t is d with the first of n half-edges of key x stored in each cell x
pub record FirstPlaces (key : ℕ → ℕ) (n : ℕ) (d t : List ℕ) : Type 0 where
  pub is : t ≡ firsts key 0 n d

-- the first of n half-edges with follower x, or n
abbrev pub first_followed : List ℕ → ℕ → ℕ → ℕ
first_followed hs n x = least (λ k. eqb (column hs 2 k) x) n

-- t has it in cell x, wherever there is one
pub record Followed (hs : List ℕ) (n : ℕ) (t : List ℕ) : Type 0 where
  pub at : (x : ℕ) → x < n → first_followed hs n x < n → get_or t x 0 ≡ first_followed hs n x
