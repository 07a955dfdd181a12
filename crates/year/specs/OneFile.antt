-- What the code knows of one file, by the reader's judgement, is what the state after it asks. Assumes nothing.
use Rattle.std.specs.Prelude.{◌≡◌, ◌≤◌, ◌<◌, ◌+◌, ◌-◌}
use Rattle.std.proofs.Common.{◌∙◌, ap, add-one, arith}
use Rattle.seq.specs.Seq.{List, Option, none, some, ℕ, length}
use Rattle.seq.specs.HowMany.{how_many, many-le}
use Rattle.seq.specs.Table.{length-table}
use Rattle.paper.specs.Limits.{maps}
use Rattle.paper.specs.Bytes.{u16}
use Rattle.paper.specs.Refusal.{Refusal}
use Rattle.paper.specs.Lent.{outcome}
use Rattle.paper.specs.Ovfile.{Layout, layouts, layout_of}
use Rattle.paper.specs.Reader.{counts_in, tables_in, read_fault}
use Rattle.paper.specs.Sheets.{ample}
use Rattle.paper.specs.Year.{Sheet, gap_pair, sheet_by, sheet_of}
use Rattle.laws_year.specs.Step.{or_first}
use Rattle.laws_year.specs.Capped.{cap_faces, cap_read}
use Rattle.laws_year.specs.Sheets.{sheet_few}
use Rattle.laws_year.specs.StoredPairs.{sheet-stored}
use Rattle.year.specs.declared.state.Sums.{Sums}
use Rattle.year.specs.Kept.{kept}
use Rattle.year.specs.Faced.{others, pair_from, pairs_from}
use Rattle.year.specs.Stated.{minus_one, state_by, state_of, Roomy}

-- ── the reader ──

-- the layout that the file's version names
abbrev pub layout_in : List ℕ → Layout
layout_in s = layout_of layouts (u16 s 3)

-- what the reader refuses a file for, with room for all
abbrev pub fault_of : List ℕ → Option Refusal
fault_of s = read_fault maps (length layouts) (layout_in s) (ample maps) s (tables_in maps (layout_in s) s)

abbrev sheet_from : List ℕ → Option Refusal → Sheet
sheet_from s r = let o = outcome (ample maps) (counts_in s) (tables_in maps (layout_in s) s) r in sheet_by maps o.tables o.answer

judged : (s : List ℕ) (r : Option Refusal) → fault_of s ≡ r → sheet_of s ≡ sheet_from s r
judged s r e = λ i. sheet_from s (e i)

pub sheet-refused : (s : List ℕ) (r : Refusal) → fault_of s ≡ some r → sheet_of s ≡ none
sheet-refused s r e = judged s (some r) e

module _ (s : List ℕ) (fine : fault_of s ≡ none) where
  pub sheet-fine : sheet_of s ≡ some (pairs_from (layout_in s) s ((counts_in s).faces - 1))
  sheet-fine = judged s none fine ∙ ap some (sheet-stored maps layouts s (omega arith) _ (judged s none fine))

  pub fine_few : (counts_in s).faces - 1 ≤ others
  fine_few =
      omega (arith, sheet_few maps layouts s (pairs_from (layout_in s) s ((counts_in s).faces - 1)) sheet-fine, length-table (pair_from (layout_in s) s) ((counts_in s).faces - 1))

-- ── the state after it ──

module _ (t : List ℕ) (y : Sums) where
  pub gaps-small : (lo : Layout) (s : List ℕ) (n g : ℕ) → Roomy t y → n ≤ others → g ≡ how_many gap_pair (pairs_from lo s n) → y.gaps + g < 4294967296
  gaps-small lo s n g k h e = omega (arith, k.gaps, h, e, many-le gap_pair (pairs_from lo s n), length-table (pair_from lo s) n)

  pub sheet-added : (u : List ℕ) (lo : Layout) (s : List ℕ) (n pairs gaps : ℕ) (z : Sums) → kept u pairs ≡ cap_faces (y.files + 1) (kept t y.pairs) (pairs_from lo s n) → gaps ≡ how_many gap_pair (pairs_from lo s n)
      → z ≡ record { pairs = pairs; gaps = y.gaps + gaps; files = y.files + 1; bad = y.bad } → state_of u z ≡ cap_read (state_of t y) (some (pairs_from lo s n))
  sheet-added u lo s n pairs gaps z e g q =
      ap (state_of u) q
      ∙ (λ i. state_by ((e ∙ ap (λ (k : ℕ). cap_faces k (kept t y.pairs) (pairs_from lo s n)) (add-one y.files)) i) (y.gaps + g i) (add-one y.files i) (minus_one y.bad))

  pub bad-added : (b : ℕ) → minus_one b ≡ or_first (minus_one y.bad) y.files → (z : Sums) → z ≡ record { pairs = y.pairs; gaps = y.gaps; files = y.files + 1; bad = b } → state_of t z ≡ cap_read (state_of t y) none
  bad-added b f z q = ap (state_of t) q ∙ (λ i. state_by (kept t y.pairs) y.gaps (add-one y.files i) (f i))
