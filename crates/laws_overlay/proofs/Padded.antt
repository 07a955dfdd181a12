-- Of Padded of specs/, what rests on its definitions.
use Rattle.std.specs.Prelude.{◌≡◌, ◌<◌, ◌+◌, ◌*◌}
use Rattle.std.proofs.Common.{sym, subst}
use Rattle.seq.specs.Seq.{List, ℕ, length}
use Rattle.seq.specs.Wiped.{padded_at}
use Rattle.paper.specs.Map.{Map}
use Rattle.paper.specs.Faces.{overlay_of}
use Rattle.paper.specs.Tables.{source_cell, counts_of}
use Rattle.paper.specs.Lent.{Lengths}
use Rattle.laws_overlay.specs.Maps.{AllKeep}
use Rattle.laws_overlay.specs.Cells.{sources_long}
use Rattle.laws_overlay.specs.Parts.{made}
use Rattle.laws_overlay.proofs.Parts.{sources-wide}
use Rattle.laws_overlay.specs.Padded.{t, in_rows}

module _ (ms : List Map) (l : Lengths) where
  pub padded-source : AllKeep ms → (k i : ℕ) → k < (counts_of (overlay_of ms)).edges → i < length ms → source_cell (length ms) (t ms l) k i ≡ source_cell (length ms) (made ms) k i
  padded-source K k i a b =
      padded_at 0 l.sources (length ms * k + i) (made ms).sources 0
      (subst (λ (z : ℕ). length ms * k + i < z) (sym (sources_long ms (overlay_of ms) (sources-wide ms K))) (in_rows (length ms) (counts_of (overlay_of ms)).edges k i a b))
