-- The pairs of a file are the first two labels stored of each face (`sheet-stored`), so that it makes no difference into tables of how many maps it is read (`pairs_same`).
-- Assumes nothing.
use Rattle.std.specs.Prelude.{◌≡◌, ◌≤◌, ◌<◌, ◌+◌, ◌*◌, ◌-◌}
use Rattle.std.proofs.Common.{sym, ◌∙◌, ap, mul-suc, mul-le-mul_left, arith}
use Rattle.std.proofs.Math.ListN.{get_or-append}
use Rattle.seq.specs.Seq.{List, Option, none, some, ℕ, suc, length, replicate, table}
use Rattle.seq.specs.Table.{table-ext}
use Rattle.seq.specs.Options.{none_some, some_once}
use Rattle.paper.specs.Bytes.{u16}
use Rattle.paper.specs.Refusal.{Refusal, answer, unless_refused}
use Rattle.paper.specs.Tables.{face_width, face_cell, Tables}
use Rattle.paper.specs.Lent.{Lengths, padded_tables, zero_tables}
use Rattle.paper.specs.Ovfile.{Layout, layout_of}
use Rattle.paper.specs.Reader.{counts_in, stored_label, tables_in, read_fault}
use Rattle.paper.specs.Sheets.{ample}
use Rattle.laws_roundtrip.specs.ReadCells.{label-cell, read-lengths}
use Rattle.paper.specs.Year.{Pair, pairs_in, sheet_by, sheet_in}

-- tables of n and of m maps with the same first two labels
pub pairs_same : (n m : ℕ) (t u : Tables) (faces : ℕ)
    → ((f : ℕ) → f < faces → face_cell n t f 0 ≡ face_cell m u f 0) → ((f : ℕ) → f < faces → face_cell n t f 1 ≡ face_cell m u f 1) → pairs_in n t faces ≡ pairs_in m u faces
pairs_same n m t u faces a b =
    table-ext (λ f. (face_cell n t (suc f) 0, face_cell n t (suc f) 1)) (λ f. (face_cell m u (suc f) 0, face_cell m u (suc f) 1)) (faces - 1)
    (λ f l. λ i. (a (suc f) (omega arith) i, b (suc f) (omega arith) i))

-- the pairs as they are stored
abbrev pub stored_pairs : Layout → List ℕ → List Pair
stored_pairs l s = table (λ f. (stored_label l s (suc f) 0, stored_label l s (suc f) 1)) ((counts_in s).faces - 1)

module _ (n : ℕ) (known : List Layout) (s : List ℕ) where
  abbrev l : Layout
  l = layout_of known (u16 s 3)

  abbrev t : Tables
  t = tables_in n (layout_of known (u16 s 3)) s

  abbrev rule : Option Refusal
  rule = read_fault n (length known) (layout_of known (u16 s 3)) (ample n) s (tables_in n (layout_of known (u16 s 3)) s)

  abbrev lent : Option Refusal → Tables
  lent r = unless_refused (padded_tables (ample n) (tables_in n (layout_of known (u16 s 3)) s)) (zero_tables (ample n)) r

  module _ (two : 2 ≤ n) where
    padded-cell : (f j : ℕ) → f < (counts_in s).faces → j < n → face_cell n (padded_tables (ample n) (tables_in n (layout_of known (u16 s 3)) s)) f j ≡ stored_label (layout_of known (u16 s 3)) s f j
    padded-cell f j b m =
        let w : ℕ = face_width n in
        let long : length t.faces ≡ w * (counts_in s).faces = ap (λ (x : Lengths). x.faces) (read-lengths n l s) in
        get_or-append t.faces (replicate ((ample n).faces - length t.faces) 0) 0 (w * f + j) (omega (arith, long, mul-suc w f, mul-le-mul_left w b)) ∙ label-cell n l s f b j m

    stored-step : (ps : List Pair) (r : Option Refusal) → sheet_by n (lent r) (answer (counts_in s) r) ≡ some ps → ps ≡ stored_pairs (layout_of known (u16 s 3)) s
    stored-step ps none e =
        sym (some_once e)
        ∙ table-ext (λ f. (face_cell n (lent none) (suc f) 0, face_cell n (lent none) (suc f) 1)) (λ f. (stored_label l s (suc f) 0, stored_label l s (suc f) 1)) ((counts_in s).faces - 1)
        (λ f b. let q : suc f < (counts_in s).faces = omega arith in λ i. (padded-cell (suc f) 0 q (omega arith) i, padded-cell (suc f) 1 q (omega arith) i))
    stored-step ps (some r) e = absurd (none_some e)

    pub sheet-stored : (ps : List Pair) → sheet_in n known s ≡ some ps → ps ≡ stored_pairs (layout_of known (u16 s 3)) s
    sheet-stored ps e = stored-step ps rule e
