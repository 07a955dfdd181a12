-- What is in the lent tables after the overlay of any number of map files, from its promise alone (`Promised`, crates/tables/specs/Promise.antt): r is what it answers, t what the
-- tables hold, l the tables' lengths. In order: whenever it answers `Done` (demands 2 and 3); where all files pass and there is room; whenever it answers `Refused`. Assumes nothing.
use Rattle.std.specs.Prelude.{◌≡◌, ◌<◌, ◌++◌}
use Rattle.std.proofs.Common.{sym, ◌∙◌, ap, subst, arith}
use Rattle.seq.specs.Seq.{List, [], Option, none, some, ℕ, length, get_or}
use Rattle.paper.specs.Refusal.{Refusal, done, refused, first_of, answer, unless_refused}
use Rattle.paper.specs.Map.{fault}
use Rattle.paper.specs.Faces.{overlay_of, labels_of}
use Rattle.paper.specs.Tables.{Counts, Tables, counts_of, tables_of}
use Rattle.paper.specs.Lent.{Lengths, room_in, room_faults, padded_tables, zero_tables, Outcome}
use Rattle.paper.specs.Overlay.{map_faults, lent}
use Rattle.laws_refusals.specs.Room.{Fits}
use Rattle.laws_overlay.specs.Files.{AllPass, maps_of}
use Rattle.laws_labels.specs.Done.{passes-done, done-passes, done_fits, done-counts, done-tables}
use Rattle.laws_labels.specs.Demand3.{Agrees}
use Rattle.laws_labels.proofs.Demand3.{labels-agree}
use Rattle.tables.specs.Answers as code
use Rattle.tables.specs.Values.{answer_of}
use Rattle.tables.specs.Promise.{Promised}

-- of a list of files, the defined overlay: its counts, its tables, and the labels of its half-edge h, one for each map
abbrev pub counts_for : List (List ℕ) → Counts
counts_for files = counts_of (overlay_of (maps_of files))

abbrev pub tables_for : List (List ℕ) → Tables
tables_for files = tables_of (maps_of files) (overlay_of (maps_of files))

abbrev pub pair_for : List (List ℕ) → ℕ → List ℕ
pair_for files h = labels_of (maps_of files) (overlay_of (maps_of files)) h

-- the overlay of the files, done in tables of the lengths l
pub record Overlaid (l : Lengths) (files : List (List ℕ)) (c : Counts) (t : Tables) : Type 0 where
  -- every map passes, and there is room
  pub passes : (i : ℕ) → i < length files → fault (get_or files i []) ≡ none
  pub fits : Fits (room_in (length files) l) (counts_for files)
  -- demand 2: the counts are the defined overlay's, and every cell of every table is, with zeros past the counts
  pub counts-are : c ≡ counts_for files
  pub tables-are : t ≡ padded_tables l (tables_for files)
  -- demand 3: the labels agree
  pub agrees : Agrees (length files) c t (pair_for files)

module _ (l : Lengths) (files : List (List ℕ)) (r : code.Answer) (t : Tables) (promise : Promised l files r t) where
  answered : answer_of r ≡ (lent l files).answer
  answered = ap (λ (o : Outcome). o.answer) promise

  held : t ≡ (lent l files).tables
  held = ap (λ (o : Outcome). o.tables) promise

  -- whenever it is done
  pub done_is-overlaid : (c : Counts) → answer_of r ≡ done c → Overlaid l files c t
  done_is-overlaid c e =
      let d : (lent l files).answer ≡ done c = sym answered ∙ e in
      record {
        passes = done-passes l files c d;
        fits = done_fits l files c d;
        counts-are = done-counts l files c d;
        tables-are = held ∙ done-tables l files c d;
        agrees = subst (λ (u : Tables). Agrees (length files) c u (pair_for files)) (sym held) (labels-agree l files c d);
      }

  -- with no premise but the checks and room
  pub passes_is-overlaid : AllPass files → Fits (room_in (length files) l) (counts_for files) → (answer_of r ≡ done (counts_for files)) × Overlaid l files (counts_for files) t
  passes_is-overlaid P F =
      let d = answered ∙ passes-done l files P F in
      (d, done_is-overlaid (counts_for files) d)

  -- whenever it is refused: for the first thing that is found, and every cell of every table is zero
  pub refused_is_first : (q : Refusal) → answer_of r ≡ refused q → (first_of (map_faults files ++ room_faults (room_in (length files) l) (counts_for files)) ≡ some q) × (t ≡ zero_tables l)
  refused_is_first q e =
      let found = first_of (map_faults files ++ room_faults (room_in (length files) l) (counts_for files)) in
      let d = some_by found (sym answered ∙ e) in
      (d, held ∙ ap (unless_refused (padded_tables l (tables_for files)) (zero_tables l)) d)
    where
      some_by : (x : Option Refusal) → answer (counts_for files) x ≡ refused q → x ≡ some q
      some_by none e = absurd (let z : ◌≡◌ {A = ℕ} 0 1 = cc in omega arith)
      some_by (some s) e = cc
