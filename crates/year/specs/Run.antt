-- `begin`, then `add` for one file after another, then `close`: what comes of it is the definition's answer, of the whole list of files (`run-answer`), and no second outcome meets what the
-- three promise (`one_answer`). No state on the way is without room (`sound_room`). Assumes nothing.
use Rattle.std.specs.Prelude.{◌≡◌, refl, ◌≤◌, ◌<◌, ◌&&◌, ◌||◌, ◌∷◌, ◌++◌, ◌+◌, ◌*◌, Result}
use Rattle.std.proofs.Common.{sym, ◌∙◌, ap, subst, arith, lt-ltb, le-ltb, le-leb, eq-eqb}
use Rattle.std.proofs.Math.Decide.{dec_lt}
use Rattle.seq.specs.Seq.{true, false, not, List, [], map, none, some, ℕ, suc, min, ltb, eqb, length}
use Rattle.seq.specs.Tests.{and_both}
use Rattle.seq.specs.HowMany.{how_many, many-le}
use Rattle.paper.specs.Limits.{maps, year_files}
use Rattle.paper.specs.Refusal.{answer, given, first_of}
use Rattle.paper.specs.Ovfile.{layouts}
use Rattle.paper.specs.Names.{whole_names}
use Rattle.paper.specs.Year.{Pair, gap_pair, Sheet, sheet_of, year_answer}
use Rattle.laws_year.specs.Step.{Tally, bad_fault, the_row_is}
use Rattle.laws_year.specs.Capped.{cap_faces, CappedState, cap_start, cap_read, cap_file, cap_from, cap_answer}
use Rattle.laws_year.proofs.Capped.{capped-answer}
use Rattle.laws_year.specs.Sheets.{sheet_few}
use Rattle.year.specs.declared.state.Year.{Year}
use Rattle.year.specs.declared.answer.Totals.{Totals}
use Rattle.map_file.specs.declared.refusal.Refusal.{Refusal}
use Rattle.year.specs.Kept.{Few, few_more, faces_few}
use Rattle.year.specs.Faced.{others, roomy}
use Rattle.year.specs.Stated.{state_by, year_state, top, is_full, has_room, next, next_is, top-unread, top_read}
use Rattle.year.specs.Closing.{closed_of}

-- ── a state that files give has room ──

-- no number is past that of so many files
record Sound (st : CappedState) : Type 0 where
  few : Few (others * st.files) st.table.tallies
  gaps : st.gaps ≤ others * st.files
  files : st.files ≤ suc year_files

not_full : (k s f : ℕ) → k ≤ roomy → s ≤ k → f ≤ k → (ltb roomy s || ltb roomy f) ≡ false
not_full k s f h a b = rw (le-ltb roomy s (omega arith), le-ltb roomy f (omega arith))

none_full : (k : ℕ) (l : List Tally) → k ≤ roomy → Few k l → how_many is_full l ≡ 0
none_full k [] h f = refl
none_full k (x ∷ xs) h (a, f) = rw (not_full k x.sheets x.faces h a.0 a.1, none_full k xs h f)

sound_room : (st : CappedState) → Sound st → has_room st ≡ true
sound_room st s =
    let h : others * st.files ≤ roomy = omega (arith, s.files) in
    and_both {a = eqb (how_many is_full st.table.tallies) 0}
    (eq-eqb (how_many is_full st.table.tallies) 0 (none_full (others * st.files) st.table.tallies h s.few))
    (le-leb st.gaps roomy (omega (arith, s.gaps)))

module _ (st : CappedState) (s : Sound st) where
  sound-read : (x : Sheet) → st.files < year_files → ((ps : List Pair) → x ≡ some ps → length ps ≤ others) → Sound (cap_read st x)
  sound-read none h l = record { few = few_more (others * st.files) (others * suc st.files) st.table.tallies (omega arith) s.few; gaps = omega (arith, s.gaps); files = omega arith }
  sound-read (some ps) h l = record {
    few = few_more (length ps + others * st.files) (others * suc st.files) (cap_faces (suc st.files) st.table ps).tallies (omega (arith, l ps refl)) (faces_few (others * st.files) (suc st.files) st.table ps s.few);
    gaps = omega (arith, s.gaps, l ps refl, many-le gap_pair ps);
    files = omega arith;
  }

  sound_next : (x : Sheet) → ((ps : List Pair) → x ≡ some ps → length ps ≤ others) → Sound (top (cap_file st x))
  sound_next x l =
      elim (dec_lt st.files year_files) [
        | yes h ↦ subst Sound (top_read st x h) (sound-read x h l)
        | no h ↦ let g : year_files ≤ st.files = omega arith in
            subst Sound (top-unread st x g) (record {
              few = few_more (others * st.files) (others * suc year_files) st.table.tallies (omega (arith, s.files)) s.few;
              gaps = omega (arith, s.gaps, s.files);
              files = omega arith;
            })
      ]

-- ── file after file ──

-- the state after the files xs
abbrev pub next_all : CappedState → List Sheet → CappedState
next_all st [] = st
next_all st (x ∷ xs) = next_all (next st x) xs

all_snoc : (st : CappedState) (xs : List Sheet) (x : Sheet) → next_all st (xs ++ (x ∷ [])) ≡ next (next_all st xs) x
all_snoc st [] x = refl
all_snoc st (y ∷ xs) x = all_snoc (next st y) xs x

map_snoc : (files : List (List ℕ)) (s : List ℕ) → map sheet_of (files ++ (s ∷ [])) ≡ map sheet_of files ++ (sheet_of s ∷ [])
map_snoc [] s = refl
map_snoc (f ∷ fs) s = ap (λ (xs : List Sheet). sheet_of f ∷ xs) (map_snoc fs s)

-- counting to 401 makes no difference
top_next : (st : CappedState) (x : Sheet) → top (cap_file (top st) x) ≡ top (cap_file st x)
top_next st x =
    elim (dec_lt st.files year_files) [
      | yes h ↦ let e : min (suc year_files) st.files ≡ st.files = omega arith in λ i. top (cap_file (state_by st.table st.gaps (e i) st.bad) x)
      | no h ↦ let g : year_files ≤ st.files = omega arith in
          sym (top-unread (top st) x (omega arith)) ∙ top-unread st x g
    ]

all_is : (st full : CappedState) (files : List (List ℕ)) → Sound st → st ≡ top full → next_all st (map sheet_of files) ≡ top (cap_from full (map sheet_of files))
all_is st full [] s e = e
all_is st full (f ∷ fs) s e =
    let q : next st (sheet_of f) ≡ top (cap_file st (sheet_of f)) = next_is st (sheet_of f) (sound_room st s) in
    all_is (next st (sheet_of f)) (cap_file full (sheet_of f)) fs
    (subst Sound (sym q) (sound_next st s (sheet_of f) (λ ps p. sheet_few maps layouts f ps p)))
    (q ∙ ap (λ (w : CappedState). top (cap_file w (sheet_of f))) e ∙ top_next full (sheet_of f))

top_over : (k : ℕ) → ltb year_files (min (suc year_files) k) ≡ ltb year_files k
top_over k =
    elim (dec_lt year_files k) [
      | yes h ↦ lt-ltb year_files (min (suc year_files) k) (omega arith) ∙ sym (lt-ltb year_files k h)
      | no h ↦ le-ltb year_files (min (suc year_files) k) (omega arith) ∙ sym (le-ltb year_files k (omega arith))
    ]

top-answer : (st : CappedState) (zones blocks : List ℕ) → cap_answer (top st) zones blocks ≡ cap_answer st zones blocks
top-answer st zones blocks = λ i. answer (map the_row_is st.table.tallies, st.gaps) (first_of (bad_fault st.bad ∷ given 18 0 (top_over st.files i) ∷ given 19 0 st.table.over ∷ given 20 0 (not (whole_names zones && whole_names blocks)) ∷ []))

all_answer : (files : List (List ℕ)) (zones blocks : List ℕ) → cap_answer (next_all cap_start (map sheet_of files)) zones blocks ≡ year_answer (map sheet_of files) zones blocks
all_answer files zones blocks =
    ap (λ (s : CappedState). cap_answer s zones blocks) (all_is cap_start cap_start files (record { few = tt; gaps = omega arith; files = omega arith }) refl)
    ∙ top-answer (cap_from cap_start (map sheet_of files)) zones blocks ∙ capped-answer (map sheet_of files) zones blocks

-- ── what the three operations give ──

-- y is what `begin`, and `add` for each of the files in turn, give
abbrev pub After : List (List ℕ) → Year → Type 0
After files y = year_state y ≡ next_all cap_start (map sheet_of files)

pub begin_after : (y : Year) → year_state y ≡ cap_start → After [] y
begin_after y e = e

pub add_after : (files : List (List ℕ)) (y z : Year) (s : List ℕ) → After files y → year_state z ≡ next (year_state y) (sheet_of s) → After (files ++ (s ∷ [])) z
add_after files y z s a e = e ∙ ap (λ (st : CappedState). next st (sheet_of s)) a ∙ sym (ap (next_all cap_start) (map_snoc files s) ∙ all_snoc cap_start (map sheet_of files) (sheet_of s))

-- and `close`: the definition's answer, of the list of files
pub run-answer : (files : List (List ℕ)) (y : Year) (c : Result Totals Refusal) (zones blocks : List ℕ) → After files y → closed_of y.rows c ≡ cap_answer (year_state y) zones blocks
    → closed_of y.rows c ≡ year_answer (map sheet_of files) zones blocks
run-answer files y c zones blocks a e = e ∙ ap (λ (st : CappedState). cap_answer st zones blocks) a ∙ all_answer files zones blocks

-- no second outcome
pub one_answer : (files : List (List ℕ)) (y z : Year) (c d : Result Totals Refusal) (zones blocks : List ℕ) → After files y → After files z
    → closed_of y.rows c ≡ cap_answer (year_state y) zones blocks → closed_of z.rows d ≡ cap_answer (year_state z) zones blocks → closed_of y.rows c ≡ closed_of z.rows d
one_answer files y z c d zones blocks a b e f = run-answer files y c zones blocks a e ∙ sym (run-answer files z d zones blocks b f)
