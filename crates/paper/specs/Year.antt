-- The year in whole numbers (02, Ask 14), over the whole run: pairs, sheets and faces, gaps, refusals 17 to 20, the text. Assumes nothing.
use Rattle.std.specs.Prelude.{◌&&◌, ◌∷◌, ◌++◌, ◌-◌}
use Rattle.seq.specs.Seq.{Bool, true, false, not, List, [], map, Option, none, some, ℕ, suc, min, ltb, length, get_or, take, table, gather, optional, is_in, in_order_by}
use Rattle.seq.specs.PairOrder.{pair_before, same_pair}
use Rattle.seq.specs.HowMany.{how_many}
use Rattle.paper.specs.Limits.{maps, year_files, year_pairs}
use Rattle.paper.specs.Bytes.{ascii}
use Rattle.paper.specs.Refusal.{given, first_at, first_of, answer, Refusal, Answer, done, refused}
use Rattle.paper.specs.Tables.{face_cell, Counts, Tables}
use Rattle.paper.specs.Ovfile.{layouts, Layout}
use Rattle.paper.specs.Reader.{read_by}
use Rattle.paper.specs.Listing.{decimal, is_gap, refused_line}
use Rattle.paper.specs.Sheets.{ample}
use Rattle.paper.specs.Names.{whole_names, shown_name}

-- ── pairs ──

-- "pair of zone and block"
abbrev pub Pair : Type 0
Pair = ℕ × ℕ

-- of a gap, as the listing counts them
abbrev pub gap_pair : Pair → Bool
gap_pair p = is_gap p.0 p.1

-- ── one file ──

-- the pairs of the "faces other than 0", in tables of n maps: the first two labels
abbrev pub pairs_in : ℕ → Tables → ℕ → List Pair
pairs_in n t faces = table (λ f. (face_cell n t (suc f) 0, face_cell n t (suc f) 1)) (faces - 1)

-- a file as a sheet: those pairs, or none where the reader refuses it
abbrev pub Sheet : Type 0
Sheet = Option (List Pair)

abbrev pub sheet_by : ℕ → Tables → Answer Counts → Sheet
sheet_by n t (done c) = some (pairs_in n t c.faces)
sheet_by n t (refused r) = none

-- files of the known versions, read into tables of n maps with room for all
abbrev pub sheet_in : ℕ → List Layout → List ℕ → Sheet
sheet_in n known s = let o = read_by n known (ample n) s in sheet_by n o.tables o.answer

abbrev pub sheet_of : List ℕ → Sheet
sheet_of = sheet_in maps layouts

-- ── the table ──

-- all faces of some sheets
abbrev pub all_faces : List (List Pair) → List Pair
all_faces fs = gather (λ f. f) fs

-- "for each pair of zone and block that occurs, the number of sheets and of faces other than 0 with it"
pub record Row : Type 0 where
  pub pair : Pair
  pub sheets : ℕ
  pub faces : ℕ

abbrev pub row_of : List (List Pair) → Pair → Row
row_of fs p = record { pair = p; sheets = how_many (is_in same_pair p) fs; faces = how_many (same_pair p) (all_faces fs) }

-- the pairs of a list, each once, "sorted by pair"
abbrev pub sorted_pairs : List Pair → List Pair
sorted_pairs ps = in_order_by pair_before (λ p q. q) ps

abbrev pub year_rows : List (List Pair) → List Row
year_rows fs = map (row_of fs) (sorted_pairs (all_faces fs))

-- "then the total of gaps"
abbrev pub year_gaps : List (List Pair) → ℕ
year_gaps fs = how_many gap_pair (all_faces fs)

-- ── refusals and the answer ──

abbrev pub is_bad : Sheet → Bool
is_bad none = true
is_bad (some ps) = false

-- the sheets that count: of the first 400 files those that are read
abbrev pub counted : List Sheet → List (List Pair)
counted xs = gather optional (take year_files xs)

-- 17 "for an overlay file among the first 400 that the reader refuses (place: its number, from 0)", 18 "for a 401st file", 19 "for more than 500 pairs",
-- 20 "for a name list that ends inside an entry, in that order over the whole run"
abbrev pub year_fault : List Sheet → List ℕ → List ℕ → Option Refusal
year_fault xs zones blocks = first_of (
    first_at 17 (λ i. is_bad (get_or xs i none)) (min year_files (length xs))
    ∷ given 18 0 (ltb year_files (length xs))
    ∷ given 19 0 (ltb year_pairs (length (year_rows (counted xs))))
    ∷ given 20 0 (not (whole_names zones && whole_names blocks))
    ∷ [])

abbrev pub year_answer : List Sheet → List ℕ → List ℕ → Answer (List Row × ℕ)
year_answer xs zones blocks = answer (year_rows (counted xs), year_gaps (counted xs)) (year_fault xs zones blocks)

-- ── the text ──

-- `ZONE BLOCK SHEETS FACES NAME`
abbrev pub year_line : List ℕ → List ℕ → Row → List ℕ
year_line zones blocks r =
    decimal r.pair.0 ++ ascii " " ++ decimal r.pair.1
    ++ ascii " " ++ decimal r.sheets ++ ascii " " ++ decimal r.faces
    ++ ascii " " ++ shown_name zones blocks r.pair.0 r.pair.1 ++ ascii "\n"

abbrev pub year_text : List ℕ → List ℕ → Answer (List Row × ℕ) → List ℕ
year_text zones blocks (refused r) = refused_line r
year_text zones blocks (done y) = gather (year_line zones blocks) y.0 ++ ascii "gaps " ++ decimal y.1 ++ ascii "\n"

-- what the program prints
abbrev pub year : List (List ℕ) → List ℕ → List ℕ → List ℕ
year files zones blocks = year_text zones blocks (year_answer (map sheet_of files) zones blocks)
