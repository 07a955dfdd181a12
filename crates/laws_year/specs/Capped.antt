-- The year with room for 500 pairs only: the tallies are kept as long as there are no more, and then the fact that there are more. The answer is the same (`capped-answer`). Assumes nothing.
use Rattle.std.specs.Prelude.{◌≡◌, refl, ◌⊎◌, ◌≤◌, ◌<◌, ◌&&◌, ◌∷◌, ◌+◌}
use Rattle.std.proofs.Common.{sym, ◌∙◌, inl, inr, arith, lt-ltb, le-ltb}
use Rattle.seq.specs.Seq.{Bool, true, false, cond, not, List, [], map, Option, none, some, ℕ, suc, ltb, length}
use Rattle.seq.specs.HowMany.{how_many}
use Rattle.paper.specs.Limits.{year_files, year_pairs}
use Rattle.paper.specs.Refusal.{given, first_of, Refusal, Answer, answer}
use Rattle.paper.specs.Names.{whole_names}
use Rattle.paper.specs.Year.{Pair, gap_pair, Sheet, Row}
use Rattle.laws_year.specs.Step.{Tally, add_face, State, start, or_first, bad_fault, the_row_is, state_answer}

-- ── definitions ──

-- at most 500 tallies, or more than 500 pairs
pub record Capped : Type 0 where
  pub tallies : List Tally
  pub over : Bool

abbrev pub capped : List Tally → List Tally → Capped
capped old new = cond (ltb year_pairs (length new)) (record { tallies = old; over = true }) (record { tallies = new; over = false })

abbrev pub cap_face : ℕ → Capped → Pair → Capped
cap_face n k p = cond k.over k (capped k.tallies (add_face n k.tallies p))

abbrev pub cap_faces : ℕ → Capped → List Pair → Capped
cap_faces n k [] = k
cap_faces n k (p ∷ ps) = cap_faces n (cap_face n k p) ps

pub record CappedState : Type 0 where
  pub table : Capped
  pub gaps : ℕ
  pub files : ℕ
  pub bad : Option ℕ

abbrev pub cap_start : CappedState
cap_start = record { table = record { tallies = []; over = false }; gaps = 0; files = 0; bad = none }

abbrev pub cap_read : CappedState → Sheet → CappedState
cap_read st none = record { table = st.table; gaps = st.gaps; files = suc st.files; bad = or_first st.bad st.files }
cap_read st (some ps) = record {
  table = cap_faces (suc st.files) st.table ps;
  gaps = st.gaps + how_many gap_pair ps;
  files = suc st.files;
  bad = st.bad;
}

abbrev pub cap_unread : CappedState → CappedState
cap_unread st = record { table = st.table; gaps = st.gaps; files = suc st.files; bad = st.bad }

abbrev pub cap_file : CappedState → Sheet → CappedState
cap_file st x = cond (ltb st.files year_files) (cap_read st x) (cap_unread st)

abbrev pub cap_from : CappedState → List Sheet → CappedState
cap_from st [] = st
cap_from st (x ∷ xs) = cap_from (cap_file st x) xs

abbrev pub cap_fault : CappedState → List ℕ → List ℕ → Option Refusal
cap_fault st zones blocks = first_of (
    bad_fault st.bad
    ∷ given 18 0 (ltb year_files st.files)
    ∷ given 19 0 st.table.over
    ∷ given 20 0 (not (whole_names zones && whole_names blocks))
    ∷ [])

abbrev pub cap_answer : CappedState → List ℕ → List ℕ → Answer (List Row × ℕ)
cap_answer st zones blocks = answer (map the_row_is st.table.tallies, st.gaps) (cap_fault st zones blocks)

-- ── they agree with the tallies of all pairs ──

-- what is kept of the tallies ts
abbrev pub Keeps : Capped → List Tally → Type 0
Keeps k ts = ((k.over ≡ false) × (k.tallies ≡ ts) × (length ts ≤ year_pairs)) ⊎ ((k.over ≡ true) × (year_pairs < length ts))

-- the same in all but the tallies past 500
pub record Agrees (st : CappedState) (full : State) : Type 0 where
  pub table : Keeps st.table full.tallies
  pub gaps : st.gaps ≡ full.gaps
  pub files : st.files ≡ full.files
  pub bad : st.bad ≡ full.bad

pub start-agrees : Agrees cap_start start
start-agrees = record { table = inl (refl, refl, omega arith); gaps = refl; files = refl; bad = refl }

-- ── and so the answer is the same ──

-- the answer by its parts
abbrev reply : List Tally → ℕ → Option ℕ → ℕ → Bool → Option Refusal → Answer (List Row × ℕ)
reply ts gaps bad files over names = answer (map the_row_is ts, gaps) (first_of (bad_fault bad ∷ given 18 0 (ltb year_files files) ∷ given 19 0 over ∷ names ∷ []))

-- where there are more than 500 pairs it does not matter which
over_refuses : (x y : List Row × ℕ) (bad : Option ℕ) (c : Bool) (r : Option Refusal) → answer x (first_of (bad_fault bad ∷ given 18 0 c ∷ given 19 0 true ∷ r ∷ [])) ≡ answer y (first_of (bad_fault bad ∷ given 18 0 c ∷ given 19 0 true ∷ r ∷ []))
over_refuses x y none true r = refl
over_refuses x y none false r = refl
over_refuses x y (some k) c r = refl

module _ (st : CappedState) (full : State) (zones blocks : List ℕ) (A : Agrees st full) where
  abbrev names : Option Refusal
  names = given 20 0 (not (whole_names zones && whole_names blocks))

  abbrev many : Bool
  many = ltb year_pairs (length full.tallies)

  -- with the same gaps, files and bad file
  same_rest : cap_answer st zones blocks ≡ reply st.table.tallies full.gaps full.bad full.files st.table.over names
  same_rest = λ i. reply st.table.tallies (A.gaps i) (A.bad i) (A.files i) st.table.over names

  by_table : Keeps st.table full.tallies → reply st.table.tallies full.gaps full.bad full.files st.table.over names ≡ reply full.tallies full.gaps full.bad full.files many names
  by_table (inl (o, e, l)) =
      let q : st.table.over ≡ many = o ∙ sym (le-ltb year_pairs (length full.tallies) l) in
      (λ i. reply (e i) full.gaps full.bad full.files (q i) names)
  by_table (inr (o, l)) =
      let q : true ≡ many = sym (lt-ltb year_pairs (length full.tallies) l) in
      (λ i. reply st.table.tallies full.gaps full.bad full.files (o i) names)
      ∙ over_refuses (map the_row_is st.table.tallies, full.gaps) (map the_row_is full.tallies, full.gaps) full.bad (ltb year_files full.files) names
      ∙ (λ i. reply full.tallies full.gaps full.bad full.files (q i) names)

  pub agrees-answer : cap_answer st zones blocks ≡ state_answer full zones blocks
  agrees-answer = same_rest ∙ by_table A.table
