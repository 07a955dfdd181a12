-- Three maps, worked out by hand (sheets/bed): three squares on one ground line that overlap in one cell, an edge that all three share, and a rock in the third map.
--
--   6  13-----------14----------15----------16      zone  (0, 0) to (6, 6), label 1
--      |            |           |           |       block (2, 0) to (7, 5), label 7
--   5  |    9-------10----------11----12    |       bed   (3, 0) to (9, 6), label 9, and in it
--      |    |       |           |     |     |             the rock 6 7 8, label 4
--   3  |    |       |      8    |     |     |
--   1  |    |       |  6---7    |     |     |
--   0  0----1-------2-----------3-----4-----5
--      0    2       3  4   5    6     7     9
--
-- Assumes nothing.
use Rattle.std.specs.Prelude.{◌≡◌, refl, ◌∷◌}
use Rattle.exact.specs.Exact.{gcd_of}
use Rattle.seq.specs.Seq.{List, [], Option, some, ℕ, table}
use Rattle.paper.specs.Limits.{maps}
use Rattle.paper.specs.Refusal.{Answer}
use Rattle.paper.specs.Map.{fault}
use Rattle.paper.specs.Faces.{overlay_of}
use Rattle.paper.specs.Tables.{face_width, face_cell, tables_of, Counts}
use Rattle.paper.specs.Lent.{Outcome}
use Rattle.paper.specs.Overlay.{overlay}
use Rattle.paper.specs.Record.{edge_record, Source, OverlayEdge, first, second, both, third, first_third, second_third, all}
use Rattle.paper.specs.Sample.{at, arc, map_file, zone}
use Rattle.paper.specs.Sheets.{ample, counted, refused_with}

-- the bed, its edges in turn from the ground line, then those of the rock
abbrev pub bed : List ℕ
bed =
    map_file (at 3 0 ∷ at 9 0 ∷ at 9 6 ∷ at 3 6 ∷ at 4 1 ∷ at 5 1 ∷ at 5 3 ∷ [])
    (arc 0 1 9 0 ∷ arc 1 2 9 0 ∷ arc 2 3 9 0 ∷ arc 3 0 9 0 ∷ arc 4 5 4 9 ∷ arc 5 6 4 9 ∷ arc 6 4 4 9 ∷ [])

abbrev pub three : Outcome
three = overlay (ample maps) (zone 0 0 6 1) (zone 2 0 5 7) bed

abbrev piece : ℕ → ℕ → Source → Option OverlayEdge
piece a b s = some (record { lower = a; upper = b; source = s })

-- from each vertex upward the edges to the smaller vertex first
abbrev pub pieces : List (Option OverlayEdge)
pieces =
    piece 0 1 (first 0) ∷ piece 0 13 (first 3) ∷ piece 1 2 (both 0 0) ∷ piece 1 9 (second 3) ∷ piece 2 3 (all 0 0 0) ∷ piece 2 10 (third 3)
    ∷ piece 3 4 (second_third 0 0) ∷ piece 3 11 (first 1) ∷ piece 4 5 (third 0) ∷ piece 4 12 (second 1) ∷ piece 5 16 (third 1)
    ∷ piece 6 7 (third 4) ∷ piece 6 8 (third 6) ∷ piece 7 8 (third 5) ∷ piece 9 10 (second 2) ∷ piece 10 11 (second 2) ∷ piece 10 14 (third 3)
    ∷ piece 11 12 (second 2) ∷ piece 11 15 (first 1) ∷ piece 13 14 (first 2) ∷ piece 14 15 (first_third 2 2) ∷ piece 15 16 (third 2) ∷ []

-- three labels, the least half-edge, the holes: the outside; zone alone; zone and block; all three, with the rock as its hole; block and bed; bed alone; the rock; zone and bed
abbrev pub cells : List (List ℕ)
cells =
    (0 ∷ 0 ∷ 0 ∷ 65535 ∷ 1 ∷ []) ∷ (1 ∷ 0 ∷ 0 ∷ 0 ∷ 0 ∷ []) ∷ (1 ∷ 7 ∷ 0 ∷ 4 ∷ 0 ∷ []) ∷ (1 ∷ 7 ∷ 9 ∷ 8 ∷ 1 ∷ [])
    ∷ (0 ∷ 7 ∷ 9 ∷ 12 ∷ 0 ∷ []) ∷ (0 ∷ 0 ∷ 9 ∷ 16 ∷ 0 ∷ []) ∷ (1 ∷ 7 ∷ 4 ∷ 22 ∷ 0 ∷ []) ∷ (1 ∷ 0 ∷ 9 ∷ 30 ∷ 0 ∷ []) ∷ []

pub three_answered : ◌≡◌ {A = Answer Counts × List (Option OverlayEdge) × List (List ℕ)}
    (three.answer, table (edge_record three.tables) 22, table (λ f. table (face_cell maps three.tables f) (face_width maps)) 8)
    (counted 17 22 8, pieces, cells)
unfolding gcd_of fault overlay_of tables_of
three_answered = refl

-- "the third map is checked last of the maps, before room": a bed alone that is no map file, and two that are none
pub third-refused : ◌≡◌ {A = Answer Counts × Answer Counts}
    ((overlay (ample maps) (zone 0 0 6 1) (zone 2 0 5 7) []).answer, (overlay (ample maps) (zone 0 0 6 1) [] []).answer)
    (refused_with 1 3 0, refused_with 1 2 0)
unfolding gcd_of fault overlay_of tables_of
third-refused = refl
