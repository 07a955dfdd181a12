-- The overlay's promise gives what `Defined` says, of any number of map files, whenever it is done (`done_is-defined`), and it is done wherever all maps pass and there is room (`passes_is-defined`). From the
-- promise alone (`Promised`, crates/tables/specs/Promise.antt): r is what it answers, t what the tables hold, l their lengths. Assumes nothing.
use Rattle.std.specs.Prelude.{◌≡◌, ◌<◌, ◌*◌}
use Rattle.std.proofs.Common.{◌∙◌, ap}
use Rattle.seq.specs.Seq.{List, ℕ, length}
use Rattle.paper.specs.Map.{Map}
use Rattle.paper.specs.Tables.{Counts}
use Rattle.paper.specs.Lent.{Lengths, lengths_of, room_in, padded_tables}
use Rattle.laws_overlay.specs.Maps.{AllKeep}
use Rattle.laws_overlay.specs.Files.{AllPass, maps_of, maps-count, files-keep}
use Rattle.laws_refusals.specs.Room.{Fits}
use Rattle.laws_roundtrip.specs.ReadCells.{exact_lengths}
use Rattle.laws_roundtrip.specs.Zeros.{padded-lengths}
use Rattle.tables.specs.Answers as code
use Rattle.laws_promise.specs.Good.{table-lengths}
use Rattle.laws_promise.specs.Demands.{counts_for, tables_for}
use Rattle.laws_promise.specs.Held.{Held, padded-held}

-- ── files that pass ──

module _ (files : List (List ℕ)) (P : AllPass files) (l : Lengths) where
  abbrev pub ms : List Map
  ms = maps_of files

  abbrev pub c : Counts
  c = counts_for files

  pub keep : AllKeep (maps_of files)
  keep = files-keep files P

  pub held : Held (maps_of files) (counts_for files) (padded_tables l (tables_for files))
  held = padded-held ms keep l

  module _ (F : Fits (room_in (length files) l) (counts_for files)) where
    pub lengths-are : lengths_of (padded_tables l (tables_for files)) ≡ l
    lengths-are = padded-lengths (length files) l c (tables_for files) (table-lengths ms keep ∙ ap (λ (n : ℕ). exact_lengths n c) (maps-count files)) F
