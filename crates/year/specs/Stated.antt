-- The year so far, as the code keeps it, is a state of the definitions: what a file more makes of it. A state whose counts leave no room for a file's faces, which no files give, stays as it is.
-- Assumes nothing.
use Rattle.std.specs.Prelude.{◌≡◌, refl, ◌≤◌, ◌<◌, ◌&&◌, ◌||◌, ◌∷◌, ◌+◌, ◌*◌}
use Rattle.std.proofs.Common.{sym, ◌∙◌, ap, add-zero, add-one, arith, ltb-false, lt-ltb, le-ltb, leb-true, eqb-true, eq-eqb, ne_eqb}
use Rattle.seq.specs.Seq.{Bool, true, false, cond, List, [], Option, none, some, ℕ, zero, suc, min, ltb, leb, eqb, length, get_or}
use Rattle.seq.specs.Tests.{and_parts, or_l}
use Rattle.seq.specs.HowMany.{how_many, many-le, many-++}
use Rattle.seq.specs.Table.{length-table, table_more}
use Rattle.paper.specs.Limits.{year_files, year_pairs}
use Rattle.paper.specs.Year.{gap_pair, Sheet}
use Rattle.laws_year.specs.Step.{Tally, or_first}
use Rattle.laws_year.specs.Capped.{Capped, cap_faces, CappedState, cap_read, cap_unread, cap_file}
use Rattle.year.specs.declared.state.Sums.{Sums}
use Rattle.year.specs.declared.state.Year.{Year}
use Rattle.year.specs.TallyRows.{tally_width, tally_at, tallies_in}
use Rattle.year.specs.Kept.{kept, Few}
use Rattle.year.specs.Faced.{roomy}

-- a number + 1, or 0 for none
abbrev pub minus_one : ℕ → Option ℕ
minus_one zero = none
minus_one (suc k) = some k

abbrev pub state_by : Capped → ℕ → ℕ → Option ℕ → CappedState
state_by t gaps files bad = record { table = t; gaps = gaps; files = files; bad = bad }

abbrev pub state_of : List ℕ → Sums → CappedState
state_of t y = state_by (kept t y.pairs) y.gaps y.files (minus_one y.bad)

abbrev pub year_state : Year → CappedState
year_state y = state_of y.rows y.sums

-- files counted to 401
abbrev pub top : CappedState → CappedState
top st = state_by st.table st.gaps (min (suc year_files) st.files) st.bad

-- a count to which a file's faces can't be added
abbrev pub is_full : Tally → Bool
is_full x = ltb roomy x.sheets || ltb roomy x.faces

abbrev pub has_room : CappedState → Bool
has_room st = eqb (how_many is_full st.table.tallies) 0 && leb st.gaps roomy

-- one file more
abbrev pub next : CappedState → Sheet → CappedState
next st x = cond (has_room st) (top (cap_file st x)) st

-- ── room ──

pub record Roomy (t : List ℕ) (y : Sums) : Type 0 where
  pub room : tally_width * year_pairs ≤ length t
  pub few : Few roomy (kept t y.pairs).tallies
  pub gaps : y.gaps ≤ roomy

full_step : (s f k : ℕ) (a b : Bool) → ltb roomy s ≡ a → ltb roomy f ≡ b → cond (a || b) (suc k) k ≡ 0 → (s ≤ roomy) × (f ≤ roomy) × (k ≡ 0)
full_step s f k true b e g h = absurd (omega arith)
full_step s f k false true e g h = absurd (omega arith)
full_step s f k false false e g h = (ltb-false roomy s e, ltb-false roomy f g, h)

none_full : (l : List Tally) → how_many is_full l ≡ 0 → Few roomy l
none_full [] h = tt
none_full (x ∷ xs) h = let r = full_step x.sheets x.faces (how_many is_full xs) (ltb roomy x.sheets) (ltb roomy x.faces) refl refl h in ((r.0, r.1), none_full xs r.2)

pub has_roomy : (t : List ℕ) (y : Sums) → tally_width * year_pairs ≤ length t → has_room (state_of t y) ≡ true → Roomy t y
has_roomy t y l e =
    let r = and_parts (eqb (how_many is_full (kept t y.pairs).tallies) 0) (leb y.gaps roomy) e in
    record { room = l; few = none_full (kept t y.pairs).tallies (eqb-true (how_many is_full (kept t y.pairs).tallies) 0 r.0); gaps = leb-true y.gaps roomy r.1 }

-- a row, by its cells
module _ (t : List ℕ) (r : ℕ) where
  pub full_sheets : roomy < get_or t (tally_width * r + 2) 0 → true ≡ is_full (tally_at t r)
  full_sheets h = sym (or_l (ltb roomy (tally_at t r).faces) (lt-ltb roomy (tally_at t r).sheets h))

  pub full_faces : get_or t (tally_width * r + 2) 0 ≤ roomy → ltb roomy (get_or t (tally_width * r + 3) 0) ≡ is_full (tally_at t r)
  full_faces h = sym (rw (le-ltb roomy (tally_at t r).sheets h))

-- rows one after the other
pub record Fulls (t : List ℕ) (n total r : ℕ) : Type 0 where
  pub within : r ≤ n
  pub is : total ≡ how_many is_full (tallies_in t r)

pub fulls_start : (t : List ℕ) (n : ℕ) → Fulls t n 0 0
fulls_start t n = record { within = omega arith; is = refl }

module _ {t : List ℕ} {n total r : ℕ} (f : Fulls t n total r) where
  pub fulls_few : total ≤ r
  fulls_few = omega (arith, f.is, many-le is_full (tallies_in t r), length-table (tally_at t) r)

  more : (b : Bool) → is_full (tally_at t r) ≡ b → how_many is_full (tallies_in t (r + 1)) ≡ total + cond b 1 0
  more b e =
      ap (how_many is_full) (table_more (tally_at t) r) ∙ many-++ is_full (tallies_in t r) (tally_at t r ∷ [])
      ∙ (λ i. sym f.is i + cond (e i) 1 0)

  pub fulls_takes : r < n → is_full (tally_at t r) ≡ true → {k : ℕ} → k ≡ total + 1 → Fulls t n k (r + 1)
  fulls_takes h e q = record { within = omega arith; is = q ∙ sym (more true e) }

  pub fulls_skips : r < n → is_full (tally_at t r) ≡ false → {k : ℕ} → k ≡ total → Fulls t n k (r + 1)
  fulls_skips h e q = record { within = omega arith; is = q ∙ sym (more false e ∙ add-zero total) }

  pub fulls_end : n ≤ r → total ≡ how_many is_full (tallies_in t n)
  fulls_end h = let e : r ≡ n = omega (arith, f.within) in f.is ∙ ap (λ (k : ℕ). how_many is_full (tallies_in t k)) e

pub room_lacks : (t : List ℕ) (y : Sums) (k m : ℕ) → m ≡ min year_pairs y.pairs → k ≡ how_many is_full (tallies_in t m) → (k ≡ 0 → ⊥) → false ≡ has_room (state_of t y)
room_lacks t y k m e f q =
    let g : k ≡ how_many is_full (kept t y.pairs).tallies = f ∙ ap (λ (j : ℕ). how_many is_full (tallies_in t j)) e in
    sym (rw (ne_eqb (how_many is_full (kept t y.pairs).tallies) 0 (λ z. q (g ∙ z))))

pub room_by_gaps : (t : List ℕ) (y : Sums) (k m : ℕ) → m ≡ min year_pairs y.pairs → k ≡ how_many is_full (tallies_in t m) → k ≡ 0 → leb y.gaps roomy ≡ has_room (state_of t y)
room_by_gaps t y k m e f z =
    let g : k ≡ how_many is_full (kept t y.pairs).tallies = f ∙ ap (λ (j : ℕ). how_many is_full (tallies_in t j)) e in
    sym (rw (eq-eqb (how_many is_full (kept t y.pairs).tallies) 0 (sym g ∙ z)))

-- ── one file more ──

module _ (st : CappedState) (x : Sheet) where
  unread : year_files ≤ st.files → cap_file st x ≡ cap_unread st
  unread h = rw (le-ltb st.files year_files h)

  reads : st.files < year_files → cap_file st x ≡ cap_read st x
  reads h = rw (lt-ltb st.files year_files h)

  pub top-unread : year_files ≤ st.files → state_by st.table st.gaps (suc year_files) st.bad ≡ top (cap_file st x)
  top-unread h =
      let e : suc year_files ≡ min (suc year_files) (suc st.files) = omega arith in
      (λ i. state_by st.table st.gaps (e i) st.bad) ∙ sym (ap top (unread h))

below : (st : CappedState) (x : Sheet) → st.files < year_files → cap_read st x ≡ top (cap_read st x)
below st none h = let e : suc st.files ≡ min (suc year_files) (suc st.files) = omega arith in λ i. state_by st.table st.gaps (e i) (or_first st.bad st.files)
below st (some ps) h = let e : suc st.files ≡ min (suc year_files) (suc st.files) = omega arith in λ i. state_by (cap_faces (suc st.files) st.table ps) (st.gaps + how_many gap_pair ps) (e i) st.bad

pub top_read : (st : CappedState) (x : Sheet) → st.files < year_files → cap_read st x ≡ top (cap_file st x)
top_read st x h = below st x h ∙ sym (ap top (reads st x h))

module _ (st : CappedState) (x : Sheet) where
  pub next_is : has_room st ≡ true → next st x ≡ top (cap_file st x)
  next_is e = rw e

  pub next_stays : has_room st ≡ false → next st x ≡ st
  next_stays e = rw e

-- ── as the code does it ──

pub first_none : (bad files : ℕ) → bad ≡ 0 → minus_one (files + 1) ≡ or_first (minus_one bad) files
first_none bad files e = ap minus_one (add-one files) ∙ sym (ap (λ (k : ℕ). or_first (minus_one k) files) e)

pub first_some : (bad files : ℕ) → (bad ≡ 0 → ⊥) → minus_one bad ≡ or_first (minus_one bad) files
first_some zero files q = absurd (q refl)
first_some (suc k) files q = refl
