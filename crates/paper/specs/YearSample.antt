-- The year, worked (02, Ask 14): what is printed for S12's file read twice, a sheet that counts once, names, and each refusal before the later ones. Assumes nothing.
use Rattle.std.specs.Prelude.{◌≡◌, refl, ◌∷◌, ◌++◌}
use Rattle.seq.specs.Seq.{Bool, true, false, List, [], Option, none, some, ℕ, replicate, table}
use Rattle.paper.specs.Bytes.{ascii}
use Rattle.paper.specs.Refusal.{Answer, done}
use Rattle.paper.specs.Reader.{tables_in}
use Rattle.paper.specs.SampleFile.{s12_file}
use Rattle.paper.specs.Sheets.{refused_with}
use Rattle.paper.specs.Names.{whole_names, part, name_part, shown_part, Part}
use Rattle.paper.specs.Year.{Pair, Sheet, Row, year_answer, year}

-- ── names ──

-- label 1 "AB", label 7 with no name, label 1 "C", label 258 "D"
abbrev pub zone_names : List ℕ
zone_names = 1 ∷ 0 ∷ 2 ∷ 65 ∷ 66 ∷ 7 ∷ 0 ∷ 0 ∷ 1 ∷ 0 ∷ 1 ∷ 67 ∷ 2 ∷ 1 ∷ 1 ∷ 68 ∷ []

-- label 7 "EF", and then an entry for label 9 that says two bytes and has one
abbrev pub whole_blocks : List ℕ
whole_blocks = 7 ∷ 0 ∷ 2 ∷ 69 ∷ 70 ∷ []

abbrev pub torn_blocks : List ℕ
torn_blocks = whole_blocks ++ (9 ∷ 0 ∷ 2 ∷ 71 ∷ [])

-- the first entry, one with no bytes, low byte first, a label that is lacking; an entry that is cut off is none, one before it is
pub parts : ◌≡◌ {A = List Part}
    (name_part zone_names 1 ∷ name_part zone_names 7 ∷ name_part zone_names 258 ∷ name_part zone_names 2 ∷ name_part torn_blocks 9 ∷ name_part torn_blocks 7 ∷ name_part [] 0 ∷ [])
    (part 3 2 ∷ part 8 0 ∷ part 15 1 ∷ part 0 0 ∷ part 0 0 ∷ part 3 2 ∷ part 0 0 ∷ [])
parts = refl

pub wholes : ◌≡◌ {A = List Bool} (whole_names zone_names ∷ whole_names whole_blocks ∷ whole_names [] ∷ whole_names torn_blocks ∷ whole_names (7 ∷ 0 ∷ []) ∷ []) (true ∷ true ∷ true ∷ false ∷ false ∷ [])
wholes = refl

-- the zone's, or the block's where the zone label is 0
pub shown : ◌≡◌ {A = List Part} (shown_part zone_names whole_blocks 1 7 ∷ shown_part zone_names whole_blocks 0 7 ∷ shown_part zone_names whole_blocks 2 7 ∷ []) (part 3 2 ∷ part 3 2 ∷ part 0 0 ∷ [])
shown = refl

-- ── the text ──

pub s12-twice : year (s12_file ∷ s12_file ∷ []) zone_names whole_blocks ≡ ascii "0 7 2 2 EF\n1 0 2 2 AB\n1 7 2 2 AB\ngaps 2\n"
unfolding tables_in
s12-twice = refl

-- nothing after the space where the name is lacking; and a file that is none
pub s12-bare : year (s12_file ∷ []) [] [] ≡ ascii "0 7 1 1 \n1 0 1 1 \n1 7 1 1 \ngaps 1\n"
unfolding tables_in
s12-bare = refl

pub s12_and_none : year (s12_file ∷ zone_names ∷ []) [] [] ≡ ascii "refused 17 map 0 place 1\n"
unfolding tables_in
s12_and_none = refl

-- ── sheets and faces ──

abbrev row : Pair → ℕ → ℕ → Row
row p s f = record { pair = p; sheets = s; faces = f }

-- three sheets: a pair with two faces on one sheet counts that sheet once; (0, 0) is a pair like others where a face other than 0 has it, and no gap
pub three_sheets : year_answer (some ((5, 2) ∷ (0, 3) ∷ (5, 2) ∷ []) ∷ some [] ∷ some ((0, 3) ∷ (5, 1) ∷ (0, 0) ∷ (5, 2) ∷ (0, 3) ∷ []) ∷ []) [] []
    ≡ done (row (0, 0) 1 1 ∷ row (0, 3) 2 3 ∷ row (5, 1) 1 1 ∷ row (5, 2) 2 3 ∷ [], 3)
three_sheets = refl

-- ── refusals, in their order ──

-- n pairs on one sheet, and n sheets with no face other than 0
abbrev pairs : ℕ → Sheet
pairs n = some (table (λ k. (k, 0)) n)

abbrev bare : ℕ → List Sheet
bare n = replicate n (some [])

abbrev no : ℕ → ℕ → Answer (List Row × ℕ)
no n k = refused_with n 0 k

-- every later fault is there too: a bad file after the 501st pair, one as the 400th, one as the 401st, which is not read
pub in_order : ◌≡◌ {A = List (Answer (List Row × ℕ))}
    (year_answer (pairs 501 ∷ none ∷ none ∷ bare 400) torn_blocks [] ∷ year_answer (pairs 501 ∷ bare 398 ++ (none ∷ none ∷ [])) torn_blocks []
    ∷ year_answer (pairs 501 ∷ bare 399 ++ (none ∷ [])) torn_blocks [] ∷ year_answer (pairs 501 ∷ bare 399) torn_blocks [] ∷ year_answer (bare 400) torn_blocks [] ∷ year_answer (bare 400) [] torn_blocks ∷ [])
    (no 17 1 ∷ no 17 399 ∷ no 18 0 ∷ no 19 0 ∷ no 20 0 ∷ no 20 0 ∷ [])
in_order = refl

pub full_year : year_answer (bare 400) zone_names whole_blocks ≡ done ([], 0)
full_year = refl
