-- The year file by file, as a program keeps it: a state by value after each file (02, Ask 14). Year has the same over the whole run; Run has that they agree. Assumes nothing.
use Rattle.std.specs.Prelude.{◌&&◌, ◌∷◌, ◌+◌}
use Rattle.seq.specs.Seq.{Bool, cond, not, List, [], Option, none, some, ℕ, suc, ltb, eqb, length, insert_by, map}
use Rattle.seq.specs.PairOrder.{pair_before}
use Rattle.seq.specs.HowMany.{how_many}
use Rattle.paper.specs.Limits.{year_files, year_pairs}
use Rattle.paper.specs.Refusal.{given, first_of, Refusal, Answer, answer}
use Rattle.paper.specs.Names.{whole_names}
use Rattle.paper.specs.Year.{Pair, gap_pair, Sheet, Row}

-- a row as it is kept: with the number, from 1, of the last file that has its pair, so that a sheet counts once
pub record Tally : Type 0 where
  pub pair : Pair
  pub sheets : ℕ
  pub faces : ℕ
  pub last : ℕ

abbrev pub tally_before : Tally → Tally → Bool
tally_before a b = pair_before a.pair b.pair

-- one face more, of file n
abbrev pub first_face : ℕ → Pair → Tally
first_face n p = record { pair = p; sheets = 1; faces = 1; last = n }

abbrev pub the_one_more : Tally → Tally → Tally
the_one_more new old = record {
  pair = old.pair;
  sheets = cond (eqb old.last new.last) old.sheets (suc old.sheets);
  faces = suc old.faces;
  last = new.last;
}

abbrev pub add_face : ℕ → List Tally → Pair → List Tally
add_face n ts p = insert_by tally_before the_one_more (first_face n p) ts

abbrev pub add_faces : ℕ → List Tally → List Pair → List Tally
add_faces n ts [] = ts
add_faces n ts (p ∷ ps) = add_faces n (add_face n ts p) ps

-- after some files: the tallies in order, the gaps, how many files there were, the first of the first 400 that the reader refused
pub record State : Type 0 where
  pub tallies : List Tally
  pub gaps : ℕ
  pub files : ℕ
  pub bad : Option ℕ

abbrev pub start : State
start = record { tallies = []; gaps = 0; files = 0; bad = none }

abbrev pub or_first : Option ℕ → ℕ → Option ℕ
or_first none k = some k
or_first (some j) k = some j

-- a file among the first 400
abbrev pub add_read : State → Sheet → State
add_read st none = record { tallies = st.tallies; gaps = st.gaps; files = suc st.files; bad = or_first st.bad st.files }
add_read st (some ps) = record {
  tallies = add_faces (suc st.files) st.tallies ps;
  gaps = st.gaps + how_many gap_pair ps;
  files = suc st.files;
  bad = st.bad;
}

-- any other is only counted
abbrev pub add_unread : State → State
add_unread st = record { tallies = st.tallies; gaps = st.gaps; files = suc st.files; bad = st.bad }

abbrev pub add_file : State → Sheet → State
add_file st x = cond (ltb st.files year_files) (add_read st x) (add_unread st)

abbrev pub year_from : State → List Sheet → State
year_from st [] = st
year_from st (x ∷ xs) = year_from (add_file st x) xs

abbrev pub bad_fault : Option ℕ → Option Refusal
bad_fault none = none
bad_fault (some k) = some (record { number = 17; map = 0; place = k; other = 0 })

abbrev pub state_fault : State → List ℕ → List ℕ → Option Refusal
state_fault st zones blocks = first_of (
    bad_fault st.bad
    ∷ given 18 0 (ltb year_files st.files)
    ∷ given 19 0 (ltb year_pairs (length st.tallies))
    ∷ given 20 0 (not (whole_names zones && whole_names blocks))
    ∷ [])

abbrev pub the_row_is : Tally → Row
the_row_is t = record { pair = t.pair; sheets = t.sheets; faces = t.faces }

abbrev pub state_answer : State → List ℕ → List ℕ → Answer (List Row × ℕ)
state_answer st zones blocks = answer (map the_row_is st.tallies, st.gaps) (state_fault st zones blocks)
