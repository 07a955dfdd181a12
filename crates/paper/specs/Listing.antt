-- The listing program's text (01, "Worked sheets"). Assumes nothing.
use Rattle.std.specs.Prelude.{◌&&◌, ◌∷◌, ◌++◌, ◌+◌, ◌-◌, ◌/◌, ◌%◌}
use Rattle.seq.specs.Seq.{Bool, not, cond, List, [], map, ℕ, zero, suc, ltb, eqb, count, rows}
use Rattle.paper.specs.Bytes.{ascii}
use Rattle.paper.specs.Refusal.{Refusal, Answer, done, refused}
use Rattle.paper.specs.Tables.{face_cell, Counts, Tables}
use Rattle.paper.specs.Lent.{Outcome}

-- a number in decimal; the first number bounds its digits
abbrev pub digits_in : ℕ → ℕ → List ℕ
digits_in zero n = []
digits_in (suc k) n = let r = digits_in k (n / 10) in cond (ltb n 10) ((48 + n) ∷ []) (r ++ ((48 + n % 10) ∷ []))

abbrev pub decimal : ℕ → List ℕ
decimal n = digits_in (suc n) n

-- "number, first label, second label, least outer half-edge (`-` for face 0), holes", in tables of n maps
abbrev pub face_line : ℕ → Tables → ℕ → List ℕ
face_line n t f =
    ascii "face " ++ decimal f
    ++ ascii " " ++ decimal (face_cell n t f 0) ++ ascii " " ++ decimal (face_cell n t f 1)
    ++ ascii " " ++ cond (eqb f 0) (ascii "-") (decimal (face_cell n t f n))
    ++ ascii " " ++ decimal (face_cell n t f (n + 1)) ++ ascii "\n"

-- "A gap is a face other than 0 whose zone label is 0 and whose block label is not 0" (02, Ask 1): by the two labels
abbrev pub is_gap : ℕ → ℕ → Bool
is_gap zone block = eqb zone 0 && not (eqb block 0)

-- of the faces other than 0, in tables of n maps
abbrev pub gaps : ℕ → Tables → ℕ → ℕ
gaps n t faces = count (λ f. is_gap (face_cell n t (suc f) 0) (face_cell n t (suc f) 1)) (faces - 1)

abbrev pub counts_line : Counts → List ℕ
counts_line c =
    ascii "vertices " ++ decimal c.vertices ++ ascii " edges " ++ decimal c.edges
    ++ ascii " faces " ++ decimal c.faces ++ ascii "\n"

-- "On refusal the only line is `refused N map M place P`"
abbrev pub refused_line : Refusal → List ℕ
refused_line r =
    ascii "refused " ++ decimal r.number ++ ascii " map " ++ decimal r.map
    ++ ascii " place " ++ decimal r.place ++ ascii "\n"

-- "The first line gives the counts, then comes a line for each face in order, and the last line gives the number of gaps"
abbrev pub listing_by : ℕ → Tables → Answer Counts → List ℕ
listing_by n t (refused r) = refused_line r
listing_by n t (done c) =
    counts_line c ++ rows (face_line n t) c.faces ++ ascii "gaps " ++ decimal (gaps n t c.faces) ++ ascii "\n"

abbrev pub listing : ℕ → Outcome → List ℕ
listing n o = listing_by n o.tables o.answer
