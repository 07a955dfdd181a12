-- The overlay's file: the writer accepts the tables of every overlay, answers the file's length and has the file in the buffer (`tables-written`), and reading that file gives
-- the overlay's counts and tables (`tables-read`). Of a list of files of bytes that pass, and of any version with bytes enough for a coordinate. Then for the operations as they
-- stand, from the overlay's promise (`Promised`): where it is done its tables are written, and reading the file gives all that came out of it (`overlay-written`, `overlay_read`). Assumes nothing.
use Rattle.std.specs.Prelude.{◌≡◌, ◌<◌, ◌≤◌, ◌∷◌, ◌*◌, ◌/◌, ◌^◌}
use Rattle.std.proofs.Common.{◌∙◌}
use Rattle.seq.specs.Seq.{List, [], ℕ, length, get_or}
use Rattle.paper.specs.Limits.{reach, denominators}
use Rattle.paper.specs.Refusal.{done}
use Rattle.paper.specs.Tables.{Counts, Tables}
use Rattle.paper.specs.Lent.{Lengths}
use Rattle.paper.specs.Ovfile.{Layout, layouts, layout_of}
use Rattle.laws_overlay.specs.Files.{AllPass}
use Rattle.laws_file.specs.Bytes.{Bytes}
use Rattle.tables.specs.Answers as code
use Rattle.tables.specs.Values.{answer_of}
use Rattle.tables.specs.Promise.{Promised}
use Rattle.laws_promise.specs.Demands.{counts_for, tables_for}

-- a coordinate's bytes hold every X and Y
abbrev pub Wide : Layout → Type 0
Wide l = reach * denominators < 256 ^ l.coordinate / 2

module _ (files : List (List ℕ)) (P : AllPass files) (B : (i : ℕ) → Bytes (get_or files i [])) where
  abbrev pub c : Counts
  c = counts_for files

  abbrev pub t : Tables
  t = tables_for files

-- ── the operations as they stand: three files in, the newest version out ──

abbrev pub newest : Layout
newest = layout_of layouts (length layouts)

module _ (ls : Lengths) (a b z : List ℕ) (A : Bytes a) (B : Bytes b) (Z : Bytes z) (r : code.Answer) (t : Tables) (promise : Promised ls (a ∷ b ∷ z ∷ []) r t) (c : Counts) (e : answer_of r ≡ done c) where
  abbrev pub files : List (List ℕ)
  files = a ∷ b ∷ z ∷ []
