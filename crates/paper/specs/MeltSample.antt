-- Cells melted together, worked out by hand (sheets/merged). Two zones side by side have been merged: both have label 1. In the second stands a fence that separates nothing. A block covers the lower half.
--
--   4  8-----9-----10      6-----7-----8       zones (0, 0) to (4, 4) and (4, 0) to (8, 4), label 1, and the fence 6 7
--   3  |     | 6-7 |       |           |       block (0, 0) to (8, 2), label 7
--   2  3-----4-----5       3-----4-----5
--   0  0-----1-----2       0-----1-----2       left: the overlay; right: melted
--      0     4 5 6 8
--
-- The line between the zones and the fence go, then the fence's ends; 4 has two edges and stays. Assumes nothing.
use Rattle.std.specs.Prelude.{◌≡◌, refl, ◌∷◌, ◌*◌}
use Rattle.exact.specs.Exact.{gcd_of}
use Rattle.seq.specs.Seq.{List, [], Option, some, ℕ, table}
use Rattle.paper.specs.Limits.{maps}
use Rattle.paper.specs.Refusal.{Answer}
use Rattle.paper.specs.Map.{fault}
use Rattle.paper.specs.Faces.{overlay_of}
use Rattle.paper.specs.Tables.{vertex_width, face_width, face_cell, tables_of, Counts}
use Rattle.paper.specs.Lent.{Lengths, Outcome}
use Rattle.paper.specs.Overlay.{overlay}
use Rattle.paper.specs.Melt.{melted_of, melt}
use Rattle.paper.specs.Record.{edge_record, Source, OverlayEdge, first, second, both}
use Rattle.paper.specs.Sample.{at, arc, map_file, empty_file}
use Rattle.paper.specs.Sheets.{ample, counted, refused_with}

abbrev pub zones : List ℕ
zones =
    map_file (at 0 0 ∷ at 4 0 ∷ at 8 0 ∷ at 8 4 ∷ at 4 4 ∷ at 0 4 ∷ at 5 3 ∷ at 6 3 ∷ [])
    (arc 0 1 1 0 ∷ arc 1 2 1 0 ∷ arc 2 3 1 0 ∷ arc 3 4 1 0 ∷ arc 4 5 1 0 ∷ arc 5 0 1 0 ∷ arc 1 4 1 1 ∷ arc 6 7 1 1 ∷ [])

abbrev pub block : List ℕ
block = map_file (at 0 0 ∷ at 8 0 ∷ at 8 2 ∷ at 0 2 ∷ []) (arc 0 1 7 0 ∷ arc 1 2 7 0 ∷ arc 2 3 7 0 ∷ arc 3 0 7 0 ∷ [])

abbrev pub merged : Outcome
merged = melt (ample maps) zones block empty_file

abbrev piece : ℕ → ℕ → Source → Option OverlayEdge
piece a b s = some (record { lower = a; upper = b; source = s })

-- numbered afresh; sources are those that the pieces had
abbrev pub pieces : List (Option OverlayEdge)
pieces =
    piece 0 1 (both 0 0) ∷ piece 0 3 (both 5 3) ∷ piece 1 2 (both 1 0) ∷ piece 2 5 (both 2 1) ∷ piece 3 4 (second 2) ∷ piece 3 6 (first 5)
    ∷ piece 4 5 (second 2) ∷ piece 5 8 (first 2) ∷ piece 6 7 (first 4) ∷ piece 7 8 (first 3) ∷ []

-- three labels, the least half-edge, the holes: the outside; zone and block; zone alone
abbrev pub cells : List (List ℕ)
cells = (0 ∷ 0 ∷ 0 ∷ 65535 ∷ 1 ∷ []) ∷ (1 ∷ 7 ∷ 0 ∷ 0 ∷ 0 ∷ []) ∷ (1 ∷ 0 ∷ 0 ∷ 8 ∷ 0 ∷ []) ∷ []

pub melted-answered : ◌≡◌ {A = Answer Counts × Answer Counts × List (Option OverlayEdge) × List (List ℕ)}
    ((overlay (ample maps) zones block empty_file).answer, merged.answer, table (edge_record merged.tables) 10, table (λ f. table (face_cell maps merged.tables f) (face_width maps)) 3)
    (counted 11 13 5, counted 9 10 3, pieces, cells)
unfolding gcd_of fault overlay_of melted_of tables_of
melted-answered = refl

-- "11 included, which is judged on the overlay before melting": room for the 9 vertices that are left, and not for the 11 of the overlay
abbrev nine : Lengths
nine = let l = ample maps in record { vertices = 9 * vertex_width; halves = l.halves; sources = l.sources; faces = l.faces }

pub melted-refused : ◌≡◌ {A = Answer Counts} (melt nine zones block empty_file).answer (refused_with 11 0 1)
unfolding gcd_of fault overlay_of melted_of tables_of
melted-refused = refl
