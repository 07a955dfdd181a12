-- The rows that are stored, from the tables that are lent. Assumes nothing.
use Rattle.std.specs.Prelude.{◌∷◌, ◌++◌, ◌+◌}
use Rattle.seq.specs.Seq.{List, [], ℕ, get_or, ℤ, pos, table, cell}
use Rattle.paper.specs.Limits.{maps}
use Rattle.paper.specs.Graph.{twin}

-- X, Y, D, least outgoing half-edge
abbrev pub vertex_of : List ℤ → List ℕ → ℕ → List ℤ
vertex_of points least v = cell (pos 0) 4 points v 0 ∷ cell (pos 0) 4 points v 1 ∷ cell (pos 0) 4 points v 2 ∷ pos (get_or least v 0) ∷ []

-- origin, twin, follower, predecessor, face
abbrev pub half_of : List ℕ → List ℕ → List ℕ → List ℕ → ℕ → List ℕ
half_of origins next prev face h = get_or origins h 0 ∷ twin h ∷ get_or next h 0 ∷ get_or prev h 0 ∷ get_or face h 0 ∷ []

-- the numbers in a piece's row: lower, upper, and for each map the source + 1 or 0
abbrev pub piece_cells : ℕ
piece_cells = 2 + maps

-- for each map a source + 1 or 0
abbrev pub source_of : List ℕ → ℕ → List ℕ
source_of pieces k = table (λ m. cell 0 piece_cells pieces k (2 + m)) maps

-- for each map a label, least outer half-edge, hole walks: of the labels, rows of one for each map
abbrev pub face_by : List ℕ → List ℕ → List ℕ → ℕ → List ℕ
face_by labels outer holes f = table (cell 0 maps labels f) maps ++ (get_or outer f 0 ∷ get_or holes f 0 ∷ [])
