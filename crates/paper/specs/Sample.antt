-- Map files for the sheets and the checks. Assumes nothing.
use Rattle.std.specs.Prelude.{◌∷◌, ◌++◌, ◌+◌}
use Rattle.seq.specs.Seq.{List, [], ℕ, length, pos, gather}
use Rattle.paper.specs.Plane.{Vec, vec}
use Rattle.paper.specs.Bytes.{ascii, le, le_signed}

abbrev pub at : ℕ → ℕ → Vec
at x y = vec (pos x) (pos y)

-- an edge's four numbers: from, to, left and right label
abbrev pub arc : ℕ → ℕ → ℕ → ℕ → List ℕ
arc a b l r = a ∷ b ∷ l ∷ r ∷ []

-- the file of corners and edges
abbrev pub map_file : List Vec → List (List ℕ) → List ℕ
map_file ps es =
    ascii "ZMP" ++ gather (le 2) (1 ∷ length ps ∷ length es ∷ [])
    ++ gather (λ p. le_signed 2 p.x ++ le_signed 2 p.y) ps ++ gather (gather (le 2)) es

abbrev pub empty_file : List ℕ
empty_file = map_file [] []

-- one edge between two corners, with labels 0
abbrev pub single : Vec → Vec → List ℕ
single a b = map_file (a ∷ b ∷ []) (arc 0 1 0 0 ∷ [])

-- the square from (x, y) of side n, its edges in turn counter-clockwise from there, with their left labels and one right label
abbrev pub square : ℕ → ℕ → ℕ → ℕ → ℕ → ℕ → ℕ → ℕ → List ℕ
square x y n a b c d out =
    map_file (at x y ∷ at (x + n) y ∷ at (x + n) (y + n) ∷ at x (y + n) ∷ [])
    (arc 0 1 a out ∷ arc 1 2 b out ∷ arc 2 3 c out ∷ arc 3 0 d out ∷ [])

-- the square with label l within
abbrev pub zone : ℕ → ℕ → ℕ → ℕ → List ℕ
zone x y n l = square x y n l l l l 0
