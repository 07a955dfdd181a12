-- Two triangles that touch in their smallest vertex: the walk round both visits that vertex twice, and only one of the two half-edges that it leaves by there is of
-- greatest angle. 01's slip "judging hole or outer from any corner of a walk that visits its smallest vertex twice" counts the outside as a face more. Assumes nothing.
use Rattle.std.specs.Prelude.{◌≡◌, refl, ◌∷◌}
use Rattle.exact.specs.Exact.{gcd_of}
use Rattle.seq.specs.Seq.{List, [], ℕ, pos, negsuc, table}
use Rattle.paper.specs.Limits.{maps}
use Rattle.paper.specs.Plane.{vec}
use Rattle.paper.specs.Refusal.{Answer}
use Rattle.paper.specs.Map.{fault}
use Rattle.paper.specs.Faces.{overlay_of}
use Rattle.paper.specs.Tables.{face_width, face_cell, tables_of, Counts}
use Rattle.paper.specs.Lent.{Outcome}
use Rattle.paper.specs.Sample.{at, arc, map_file, empty_file}
use Rattle.paper.specs.Sheets.{run, counted}

-- both stand on (0, 0), the one of label 1 to the right of the one of label 2. The walk's least half-edge leaves (0, 0) along the left side of the right triangle;
-- the half-edge of greatest angle is the left side of the left one
abbrev pub touching : List ℕ
touching =
    map_file (at 0 0 ∷ at 3 2 ∷ at 1 1 ∷ vec (negsuc 0) (pos 3) ∷ vec (negsuc 2) (pos 3) ∷ [])
    (arc 0 1 1 0 ∷ arc 1 2 1 0 ∷ arc 2 0 1 0 ∷ arc 0 3 2 0 ∷ arc 3 4 2 0 ∷ arc 4 0 2 0 ∷ [])

abbrev pub touched : Outcome
touched = run touching empty_file

-- the outside with one hole walk round both, and two faces
pub touching-answered : ◌≡◌ {A = Answer Counts × List (List ℕ)} (touched.answer, table (λ f. table (face_cell maps touched.tables f) (face_width maps)) 3)
    (counted 5 6 3, (0 ∷ 0 ∷ 0 ∷ 65535 ∷ 1 ∷ []) ∷ (1 ∷ 0 ∷ 0 ∷ 1 ∷ 0 ∷ []) ∷ (2 ∷ 0 ∷ 0 ∷ 5 ∷ 0 ∷ []) ∷ [])
unfolding gcd_of fault overlay_of tables_of
touching-answered = refl
