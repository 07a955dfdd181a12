-- Soundings by cell at a sheet (02, Ask 3), computed: two squares of side 2 side by side with labels 5 and 6, over a triangle with label 7. Soundings inside, on sides, on corners, on
-- a slanting side, outside; the refusals in their order. Assumes nothing.
use Rattle.std.specs.Prelude.{◌≡◌, refl, ◌∷◌, ◌++◌}
use Rattle.seq.specs.Seq.{List, map, ℕ, []}
use Rattle.paper.specs.Map.{Map, map_of}
use Rattle.paper.specs.Sample.{at, arc, map_file}
use Rattle.paper.specs.Soundings.{cell_of}

-- zones: the left square has label 5, the right one 6
abbrev pub zones : List ℕ
zones = map_file (at 0 0 ∷ at 2 0 ∷ at 4 0 ∷ at 4 2 ∷ at 2 2 ∷ at 0 2 ∷ [])
    (arc 0 1 5 0 ∷ arc 1 2 6 0 ∷ arc 2 3 6 0 ∷ arc 3 4 6 0 ∷ arc 4 5 5 0 ∷ arc 5 0 5 0 ∷ arc 1 4 5 6 ∷ [])

-- a block: the triangle (0, 0), (4, 0), (0, 4)
abbrev pub blocks : List ℕ
blocks = map_file (at 0 0 ∷ at 4 0 ∷ at 0 4 ∷ []) (arc 0 1 7 0 ∷ arc 1 2 7 0 ∷ arc 2 0 7 0 ∷ [])

abbrev ms : List Map
ms = map_of zones ∷ map_of blocks ∷ []

-- inside; on the line between the squares, where it meets the slanting side, and below; on the right side; on the lower side and the corner there; on the upper side; on the slanting side
placed : map (cell_of ms) (at 1 1 ∷ at 2 1 ∷ at 2 2 ∷ at 2 0 ∷ at 4 1 ∷ at 1 0 ∷ at 0 0 ∷ at 4 0 ∷ at 1 2 ∷ at 3 1 ∷ [])
    ≡ (5 ∷ 7 ∷ []) ∷ (6 ∷ 7 ∷ []) ∷ (0 ∷ 0 ∷ []) ∷ (6 ∷ 7 ∷ []) ∷ (0 ∷ 0 ∷ []) ∷ (5 ∷ 7 ∷ []) ∷ (5 ∷ 7 ∷ []) ∷ (0 ∷ 0 ∷ []) ∷ (0 ∷ 7 ∷ []) ∷ (6 ∷ 0 ∷ []) ∷ []
placed = refl
