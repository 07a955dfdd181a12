-- Of Run of specs/, what rests on its definitions.
use Rattle.std.specs.Prelude.{◌≡◌, refl, ◌≤◌, ◌<◌, ◌&&◌, ◌∷◌, ◌++◌, ◌+◌}
use Rattle.std.proofs.Common.{sym, ◌∙◌, ap, subst, append-nil, le_refl, add-zero, add-one, arith, ltb-true, ltb-false, lt-ltb, length-append}
use Rattle.std.proofs.Math.Decide.{dec_lt}
use Rattle.std.proofs.Math.ListN.{get_or-append}
use Rattle.std.proofs.Math.Seq.{append_snoc}
use Rattle.std.proofs.lemmas.List.{get_or_at}
use Rattle.seq.specs.Seq.{Bool, true, false, cond, not, List, [], map, Option, none, some, ℕ, suc, min, ltb, length, get_or, is_in, least}
use Rattle.seq.specs.Terms.{Among}
use Rattle.seq.specs.Tests.{not-true}
use Rattle.seq.specs.Members.{length-map, gather-++}
use Rattle.seq.proofs.Least.{least_is, no_some}
use Rattle.seq.specs.PairOrder.{same_pair, same_pair_is}
use Rattle.seq.specs.HowMany.{how_many, many-++, many_none}
use Rattle.paper.specs.Limits.{year_files, year_pairs}
use Rattle.paper.specs.Refusal.{answer, given, first_at, first_of}
use Rattle.paper.specs.Names.{whole_names}
use Rattle.paper.specs.Year.{Pair, gap_pair, Sheet, all_faces, Row, row_of, sorted_pairs, year_rows, year_gaps, is_bad, counted, year_fault, year_answer}
use Rattle.laws_year.specs.Step.{Tally, add_faces, State, start, or_first, add_read, add_unread, add_file, year_from, bad_fault, state_fault, the_row_is, state_answer}
use Rattle.laws_year.specs.Pairs.{in_among}
use Rattle.laws_year.specs.Rows.{face_of_lem}
use Rattle.laws_year.specs.Tallies.{tally_by, tallies_to}
use Rattle.laws_year.proofs.Tallies.{add-sheet, faces-grow}
use Rattle.laws_year.specs.Run.{Tallied, sheets_of, faces_of, BadIs, bad_at, read, After, counted-read, counted-unread, from-++}

-- ── the sheets that count ──

all_more : (fs : List (List Pair)) (ps : List Pair) → all_faces (fs ++ (ps ∷ [])) ≡ all_faces fs ++ ps
all_more fs ps = gather-++ (λ (f : List Pair). f) fs (ps ∷ []) ∙ ap (λ r. all_faces fs ++ r) (append-nil ps)

-- ── the tallies ──

later : (ts : List Tally) (n : ℕ) (fs : List (List Pair)) → Tallied ts n fs → Tallied ts (suc n) fs
later ts n fs C = record { marks = C.marks; marked = λ p. omega (arith, C.marked p); are = C.are }

module _ (fs : List (List Pair)) where
  nowhere : (p : Pair) → (Among p (all_faces fs) → ⊥) → (sheets_of fs p ≡ 0) × (faces_of fs p ≡ 0)
  nowhere p h = (
    many_none (is_in same_pair p) fs (λ f i. not-true (is_in same_pair p f) (λ e. h (face_of_lem p f fs i (in_among p f e)))),
    many_none (same_pair p) (all_faces fs) (λ q i. not-true (same_pair p q) (λ e. h (subst (λ (z : Pair). Among z (all_faces fs)) (sym (same_pair_is p q e)) i))),
  )

  more_sheets : (ps : List Pair) (p : Pair) → sheets_of (fs ++ (ps ∷ [])) p ≡ sheets_of fs p + cond (is_in same_pair p ps) 1 0
  more_sheets ps p = many-++ (is_in same_pair p) fs (ps ∷ [])

  more_faces : (ps : List Pair) (p : Pair) → faces_of (fs ++ (ps ∷ [])) p ≡ faces_of fs p + how_many (same_pair p) ps
  more_faces ps p = ap (how_many (same_pair p)) (all_more fs ps) ∙ many-++ (same_pair p) (all_faces fs) ps

  tallied-sheet : (ts : List Tally) (n : ℕ) (ps : List Pair) → Tallied ts n fs → Tallied (add_faces (suc n) ts ps) (suc n) (fs ++ (ps ∷ []))
  tallied-sheet ts n ps C = record {
    marks = λ p. cond (is_in same_pair p ps) (suc n) (C.marks p);
    marked = λ p. at_most (is_in same_pair p ps) (C.marks p) (C.marked p);
    are =
        ap (λ (x : List Tally). add_faces (suc n) x ps) (C.are ∙ begin)
        ∙ add-sheet (all_faces fs) (sheets_of fs) (faces_of fs) C.marks (suc n) (λ p. omega (arith, C.marked p)) nowhere ps
        ∙ (λ i. map (λ p. record { pair = p; sheets = sym (more_sheets ps p) i; faces = sym (more_faces ps p) i; last = cond (is_in same_pair p ps) (suc n) (C.marks p) }) (sorted_pairs (sym (all_more fs ps) i)));
  }
    where
      at_most : (c : Bool) (k : ℕ) → k ≤ n → cond c (suc n) k ≤ suc n
      at_most true k h = le_refl (suc n)
      at_most false k h = omega arith

      begin : map (tally_by (sheets_of fs) (faces_of fs) C.marks) (sorted_pairs (all_faces fs))
          ≡ tallies_to (all_faces fs) (sheets_of fs) (faces_of fs) C.marks (suc n) (λ p. omega (arith, C.marked p)) nowhere []
      begin = λ i. map (λ p. record { pair = p; sheets = sym (add-zero (sheets_of fs p)) i; faces = sym (add-zero (faces_of fs p)) i; last = C.marks p }) (sorted_pairs (sym (append-nil (all_faces fs)) i))

rows_are : (ts : List Tally) (n : ℕ) (fs : List (List Pair)) → Tallied ts n fs → map the_row_is ts ≡ year_rows fs
rows_are ts n fs C = ap (map the_row_is) C.are ∙ go (sorted_pairs (all_faces fs))
  where
    go : (l : List Pair) → map the_row_is (map (tally_by (sheets_of fs) (faces_of fs) C.marks) l) ≡ map (row_of fs) l
    go [] = refl
    go (p ∷ l) = ap (λ (r : List Row). row_of fs p ∷ r) (go l)

-- ── the first file that is refused ──

bad-fault : (o : Option ℕ) (xs : List Sheet) → BadIs o xs → bad_fault o ≡ first_at 17 (bad_at xs) (read xs)
bad-fault none xs h = ap (given 17 (least (bad_at xs) (read xs))) (sym (no_some (bad_at xs) (read xs) h))
bad-fault (some k) xs (l, e, f) =
    let q : least (bad_at xs) (read xs) ≡ k = least_is (bad_at xs) (read xs) k l f e in
    rw (q, lt-ltb k (read xs) l)

module _ (xs : List Sheet) (x : Sheet) where
  abbrev more : List Sheet
  more = xs ++ (x ∷ [])

  more_long : length (xs ++ (x ∷ [])) ≡ suc (length xs)
  more_long = length-append xs (x ∷ []) ∙ add-one (length xs)

  front : (i : ℕ) → i < length xs → bad_at (xs ++ (x ∷ [])) i ≡ bad_at xs i
  front i l = ap is_bad (get_or-append xs (x ∷ []) none i l)

  end : bad_at (xs ++ (x ∷ [])) (length xs) ≡ is_bad x
  end = ap is_bad (get_or_at xs x [] none (length xs) refl)

  -- a file that is read
  bad-read : (o : Option ℕ) (c : Bool) → is_bad x ≡ c → length xs < year_files → BadIs o xs → BadIs (cond c (or_first o (length xs)) o) (xs ++ (x ∷ []))
  bad-read none true e h b = (omega (arith, more_long), end ∙ e, λ j l. front j l ∙ b j (omega arith))
  bad-read none false e h b = λ i l. elim (dec_lt i (length xs)) [
    | yes q ↦ front i q ∙ b i (omega arith)
    | no q ↦ let z : i ≡ length xs = omega (arith, more_long) in ap (bad_at more) z ∙ end ∙ e
  ]
  bad-read (some k) true e h (l, t, f) = (omega (arith, more_long), front k (omega arith) ∙ t, λ j m. front j (omega arith) ∙ f j m)
  bad-read (some k) false e h (l, t, f) = (omega (arith, more_long), front k (omega arith) ∙ t, λ j m. front j (omega arith) ∙ f j m)

  -- and one that is only counted
  bad-unread : (o : Option ℕ) → year_files ≤ length xs → BadIs o xs → BadIs o (xs ++ (x ∷ []))
  bad-unread none h b = λ i l. front i (omega (arith, more_long)) ∙ b i (omega (arith, more_long))
  bad-unread (some k) h (l, t, f) = (omega (arith, more_long), front k (omega arith) ∙ t, λ j m. front j (omega arith) ∙ f j m)

-- ── the state after some files ──

module _ (st : State) (xs : List Sheet) (A : After st xs) where
  after_read : (x : Sheet) → length xs < year_files → After (add_read st x) (xs ++ (x ∷ []))
  after_read none h =
      let e : counted (xs ++ (none ∷ [])) ≡ counted xs = counted-read xs none h ∙ append-nil (counted xs) in
      record {
        files = ap suc A.files ∙ sym (more_long xs none);
        gaps = A.gaps ∙ ap year_gaps (sym e);
        bad = subst (λ (k : ℕ). BadIs (or_first st.bad k) (xs ++ (none ∷ []))) (sym A.files) (bad-read xs none st.bad true refl h A.bad);
        tallied = subst (λ (fs : List (List Pair)). Tallied st.tallies (suc st.files) fs) (sym e) (later st.tallies st.files (counted xs) A.tallied);
      }
  after_read (some ps) h =
      let e : counted (xs ++ (some ps ∷ [])) ≡ counted xs ++ (ps ∷ []) = counted-read xs (some ps) h in
      record {
        files = ap suc A.files ∙ sym (more_long xs (some ps));
        gaps =
            ap (λ (k : ℕ). k + how_many gap_pair ps) A.gaps ∙ sym (many-++ gap_pair (all_faces (counted xs)) ps)
            ∙ ap (how_many gap_pair) (sym (all_more (counted xs) ps)) ∙ ap year_gaps (sym e);
        bad = bad-read xs (some ps) st.bad false refl h A.bad;
        tallied = subst (λ (fs : List (List Pair)). Tallied (add_faces (suc st.files) st.tallies ps) (suc st.files) fs) (sym e) (tallied-sheet (counted xs) st.tallies st.files ps A.tallied);
      }

  after_unread : (x : Sheet) → year_files ≤ length xs → After (add_unread st) (xs ++ (x ∷ []))
  after_unread x h =
      let e : counted (xs ++ (x ∷ [])) ≡ counted xs = counted-unread xs x h in
      record {
        files = ap suc A.files ∙ sym (more_long xs x);
        gaps = A.gaps ∙ ap year_gaps (sym e);
        bad = bad-unread xs x st.bad h A.bad;
        tallied = subst (λ (fs : List (List Pair)). Tallied st.tallies (suc st.files) fs) (sym e) (later st.tallies st.files (counted xs) A.tallied);
      }

  after_file : (x : Sheet) → After (add_file st x) (xs ++ (x ∷ []))
  after_file x = go (ltb st.files year_files) refl
    where
      go : (c : Bool) → ltb st.files year_files ≡ c → After (cond c (add_read st x) (add_unread st)) (xs ++ (x ∷ []))
      go true e = after_read x (omega (arith, ltb-true st.files year_files e, A.files))
      go false e = after_unread x (omega (arith, ltb-false st.files year_files e, A.files))

after_files : (st : State) (xs ys : List Sheet) → After st xs → After (year_from st ys) (xs ++ ys)
after_files st xs [] A = subst (After st) (sym (append-nil xs)) A
after_files st xs (y ∷ ys) A = subst (After (year_from (add_file st y) ys)) (append_snoc xs y ys) (after_files (add_file st y) (xs ++ (y ∷ [])) ys (after_file st xs A y))

at_start : After start []
at_start = record {
  files = refl;
  gaps = refl;
  bad = λ i l. absurd (omega arith);
  tallied = record { marks = λ p. 0; marked = λ p. le_refl 0; are = refl };
}

after : (xs : List Sheet) → After (year_from start xs) xs
after xs = after_files start [] xs at_start

-- ── the run ──

module _ (xs : List Sheet) where
  pub state-files : (year_from start xs).files ≡ length xs
  state-files = (after xs).files

  pub state-gaps : (year_from start xs).gaps ≡ year_gaps (counted xs)
  state-gaps = (after xs).gaps

  pub state-rows : map the_row_is (year_from start xs).tallies ≡ year_rows (counted xs)
  state-rows = let A = after xs in rows_are (year_from start xs).tallies (year_from start xs).files (counted xs) A.tallied

  pub state-pairs : length (year_from start xs).tallies ≡ length (year_rows (counted xs))
  state-pairs = sym (length-map the_row_is (year_from start xs).tallies) ∙ ap length state-rows

  pub state-bad : bad_fault (year_from start xs).bad ≡ first_at 17 (λ i. is_bad (get_or xs i none)) (min year_files (length xs))
  state-bad = bad-fault (year_from start xs).bad xs (after xs).bad

  -- the refusal that the state keeps is the first of 17, 18, 19, 20 over the whole run
  pub state-fault : (zones blocks : List ℕ) → state_fault (year_from start xs) zones blocks ≡ year_fault xs zones blocks
  state-fault zones blocks = λ i. first_of (
      state-bad i
      ∷ given 18 0 (ltb year_files (state-files i))
      ∷ given 19 0 (ltb year_pairs (state-pairs i))
      ∷ given 20 0 (not (whole_names zones && whole_names blocks))
      ∷ [])

  pub state-answer : (zones blocks : List ℕ) → state_answer (year_from start xs) zones blocks ≡ year_answer xs zones blocks
  state-answer zones blocks = λ i. answer (state-rows i, state-gaps i) (state-fault zones blocks i)

-- ── what later files leave ──

read-grows : (st : State) (x : Sheet) → length st.tallies ≤ length (add_read st x).tallies
read-grows st none = le_refl (length st.tallies)
read-grows st (some ps) = faces-grow (suc st.files) st.tallies ps

file-grows : (st : State) (x : Sheet) (c : Bool) → length st.tallies ≤ length (cond c (add_read st x) (add_unread st)).tallies
file-grows st x true = read-grows st x
file-grows st x false = le_refl (length st.tallies)

pub run-grows : (st : State) (xs : List Sheet) → length st.tallies ≤ length (year_from st xs).tallies
run-grows st [] = le_refl (length st.tallies)
run-grows st (x ∷ xs) = omega (arith, file-grows st x (ltb st.files year_files), run-grows (add_file st x) xs)

pub over_stays : (st : State) (xs : List Sheet) → ltb year_pairs (length st.tallies) ≡ true → ltb year_pairs (length (year_from st xs).tallies) ≡ true
over_stays st xs e = lt-ltb year_pairs (length (year_from st xs).tallies) (omega (arith, ltb-true year_pairs (length st.tallies) e, run-grows st xs))

read-bad : (st : State) (x : Sheet) (k : ℕ) → st.bad ≡ some k → (add_read st x).bad ≡ some k
read-bad st none k e = ap (λ (o : Option ℕ). or_first o st.files) e
read-bad st (some ps) k e = e

file-bad : (st : State) (x : Sheet) (k : ℕ) (c : Bool) → st.bad ≡ some k → (cond c (add_read st x) (add_unread st)).bad ≡ some k
file-bad st x k true e = read-bad st x k e
file-bad st x k false e = e

pub bad-stays : (st : State) (xs : List Sheet) (k : ℕ) → st.bad ≡ some k → (year_from st xs).bad ≡ some k
bad-stays st [] k e = e
bad-stays st (x ∷ xs) k e = bad-stays (add_file st x) xs k (file-bad st x k (ltb st.files year_files) e)

-- once a file is refused the run's refusal is settled, whatever follows
pub bad-named : (xs ys : List Sheet) (k : ℕ) (zones blocks : List ℕ) → (year_from start xs).bad ≡ some k → year_fault (xs ++ ys) zones blocks ≡ some (record { number = 17; map = 0; place = k; other = 0 })
bad-named xs ys k zones blocks e = sym (state-fault (xs ++ ys) zones blocks) ∙ rw (named)
  where
    named : (year_from start (xs ++ ys)).bad ≡ some k
    named = ap (λ (st : State). st.bad) (from-++ start xs ys) ∙ bad-stays (year_from start xs) ys k e
