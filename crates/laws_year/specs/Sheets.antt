-- A file as a sheet: it has at most 1,333 faces other than 0 (`sheet_few`), and so a year at most 533,200 (`year_few`), which is what bounds every number that is printed.
-- Assumes nothing.
use Rattle.std.specs.Prelude.{◌≡◌, refl, ◌≤◌, ◌∷◌, ◌++◌, ◌+◌, ◌*◌, ◌-◌}
use Rattle.std.proofs.Common.{sym, ◌∙◌, ap, inl, inr, le_refl, mul-suc, arith, length-append, length-take}
use Rattle.seq.specs.Seq.{List, [], map, Option, none, some, ℕ, suc, not, length, take, gather, optional}
use Rattle.seq.specs.Terms.{Among}
use Rattle.seq.specs.Members.{map-among, gather-among, take-among}
use Rattle.seq.specs.Table.{length-table}
use Rattle.seq.specs.Options.{none_some, optional_some, some_once}
use Rattle.paper.specs.Limits.{overlay_faces, maps, year_files}
use Rattle.paper.specs.Bytes.{u16}
use Rattle.paper.specs.Refusal.{Refusal, answer, first_at, unless_refused}
use Rattle.paper.specs.Tables.{face_cell, Tables}
use Rattle.paper.specs.Lent.{room_in, room_faults, padded_tables, zero_tables}
use Rattle.paper.specs.Ovfile.{layouts, over, sound_edge, Layout, layout_of}
use Rattle.paper.specs.Reader.{counts_in, numbers, tables_in, head_faults, read_fault}
use Rattle.paper.specs.Sheets.{ample}
use Rattle.laws_refusals.specs.Refusals.{nothing, given_none}
use Rattle.laws_refusals.specs.Room.{not_over}
use Rattle.paper.specs.Year.{Pair, Sheet, sheet_by, sheet_in, sheet_of, all_faces, counted}

module _ (n : ℕ) (known : List Layout) (s : List ℕ) where
  abbrev l : Layout
  l = layout_of known (u16 s 3)

  abbrev t : Tables
  t = tables_in n (layout_of known (u16 s 3)) s

  abbrev rule : Option Refusal
  rule = read_fault n (length known) (layout_of known (u16 s 3)) (ample n) s (tables_in n (layout_of known (u16 s 3)) s)

  abbrev lent : Option Refusal → Tables
  lent r = unless_refused (padded_tables (ample n) (tables_in n (layout_of known (u16 s 3)) s)) (zero_tables (ample n)) r

  few : rule ≡ none → (counts_in s).faces ≤ overlay_faces
  few e =
      let (a, (b, (c, _))) = nothing (head_faults (length known) l s ++ (first_at 21 (λ k. not (sound_edge n (counts_in s) t k)) (counts_in s).edges ∷ room_faults (room_in n (ample n)) (counts_in s))) e in
      (not_over numbers (counts_in s) (given_none 3 0 (over numbers (counts_in s)) c)).faces

  few_step : (ps : List Pair) (r : Option Refusal) → (r ≡ none → (counts_in s).faces ≤ overlay_faces) → sheet_by n (lent r) (answer (counts_in s) r) ≡ some ps → length ps ≤ overlay_faces - 1
  few_step ps none h e =
      let q : length ps ≡ (counts_in s).faces - 1 =
      ap length (sym (some_once e)) ∙ length-table (λ f. (face_cell n (lent none) (suc f) 0, face_cell n (lent none) (suc f) 1)) ((counts_in s).faces - 1) in
      omega (arith, h refl)
  few_step ps (some r) h e = absurd (none_some e)

  -- no more faces than the reader takes, less face 0
  pub sheet_few : (ps : List Pair) → sheet_in n known s ≡ some ps → length ps ≤ overlay_faces - 1
  sheet_few ps e = few_step ps rule few e

-- ── how large a year can be ──

optional_few : (xs : List Sheet) → length (gather optional xs) ≤ length xs
optional_few [] = le_refl 0
optional_few (none ∷ xs) = omega (arith, optional_few xs)
optional_few (some p ∷ xs) = omega (arith, optional_few xs)

pub counted_few : (xs : List Sheet) → length (counted xs) ≤ year_files
counted_few xs = omega (arith, optional_few (take year_files xs), length-take year_files xs)

faces_few : (b : ℕ) (fs : List (List Pair)) → ((f : List Pair) → Among f fs → length f ≤ b) → length (all_faces fs) ≤ b * length fs
faces_few b [] h = omega arith
faces_few b (f ∷ fs) h = omega (arith, length-append f (all_faces fs), h f (inl refl), faces_few b fs (λ g i. h g (inr i)), mul-suc b (length fs))

-- 400 sheets of 1,333 faces
pub year_few : (files : List (List ℕ)) → length (all_faces (counted (map sheet_of files))) ≤ 533200
year_few files =
    let fs : List (List Pair) = counted (map sheet_of files) in
    omega (arith, faces_few (overlay_faces - 1) fs each, counted_few (map sheet_of files))
  where
    each : (f : List Pair) → Among f (counted (map sheet_of files)) → length f ≤ overlay_faces - 1
    each f i =
        let (x, j, k) = gather-among optional f (take year_files (map sheet_of files)) i in
        let (s, m, e) = map-among sheet_of x files (take-among x year_files (map sheet_of files) j) in
        sheet_few maps layouts s f (e ∙ optional_some f x k)
