-- The overlay of map files in lent tables, whole (01, "When a map is refused"): which refusal is given, and everything that comes out. THE DEFINITION of the operation. Assumes nothing.
use Rattle.std.specs.Prelude.{◌∷◌, ◌++◌, ◌+◌}
use Rattle.seq.specs.Seq.{List, [], map, Option, ℕ, suc, length, get_or, table}
use Rattle.paper.specs.Refusal.{first_of, the_of_map, Refusal}
use Rattle.paper.specs.Map.{map_of, fault}
use Rattle.paper.specs.Faces.{overlay_of}
use Rattle.paper.specs.Tables.{counts_of, tables_of}
use Rattle.paper.specs.Lent.{Lengths, Outcome, outcome, room_in, room_faults}

-- "The first map is checked wholly, then the second"; "The map is 1 for the first, 2 for the second"; "the third map is checked last of the maps, before room" (02, Ask 13)
abbrev pub map_faults : List (List ℕ) → List (Option Refusal)
map_faults files = table (λ i. the_of_map (suc i) (fault (get_or files i []))) (length files)

-- the overlay of a list of map files; "room comes last"
abbrev pub lent : Lengths → List (List ℕ) → Outcome
lent l files =
    let ms = map map_of files in
    let o = overlay_of ms in
    let c = counts_of o in
    outcome l c (tables_of ms o) (first_of (map_faults files ++ room_faults (room_in (length files) l) c))

-- "Two map files go in", and "Bed type comes as a third map" (02, Ask 13): zones, blocks, bed
abbrev pub overlay : Lengths → List ℕ → List ℕ → List ℕ → Outcome
overlay l a b c = lent l (a ∷ b ∷ c ∷ [])
