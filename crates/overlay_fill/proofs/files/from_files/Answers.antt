-- `overlay_fill::files::from_files` meets its contract: the tables that it lends have room for the maps, small ones where the headers count few rows. Assumes nothing.
use Rattle.std.specs.Prelude.{◌∷◌}
use mathlib.Core.Path.{refl, sym, ◌∙◌}
use native.Mathlib.Omega.{arith}
use Rattle.seq.specs.Seq.{[]}
use Rattle.graph.specs.Small.{small_vertices, small_edges}
use Rattle.overlay_maps.proofs.RoomLaws.{cleared_full, cleared-counted}
use Rattle.overlay_fill.proofs.FilesLaws.{rows_few}
use Rattle.overlay_fill.proofs.files.from_files.Goals as goal

pub from_files_in-requires : goal.from_files_in-requires
from_files_in-requires g c =
    let files = c.args.zones.now ∷ c.args.blocks.now ∷ c.args.bed.now ∷ [] in
    let few = rows_few files (sym c.few_rows.ensures ∙ c.if-few_rows.true) in
    record { fact_1 = cleared-counted files small_vertices small_edges few.0 few.1; fact_2 = omega arith }

pub from_files_in-requires-else-few_rows : goal.from_files_in-requires-else-few_rows
from_files_in-requires-else-few_rows g c =
    record { fact_1 = cleared_full (c.args.zones.now ∷ c.args.blocks.now ∷ c.args.bed.now ∷ []) refl; fact_2 = omega arith }
