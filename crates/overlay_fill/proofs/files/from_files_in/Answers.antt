-- `overlay_fill::files::from_files_in` meets its contract: the tables have room for the maps, and hold them where all pass. Assumes nothing.
use Rattle.std.specs.Prelude.{◌∷◌}
use mathlib.Core.Path.{refl, sym, ◌∙◌, ap}
use Rattle.seq.specs.Seq.{List, []}
use Rattle.paper.specs.Map.{Map}
use Rattle.paper.specs.Lent.{lengths_of}
use Rattle.map_file.specs.Verdict.{verdict}
use Rattle.tables.specs.Values.{tables_by}
use Rattle.overlay_maps.proofs.StackLaws.{all_pass}
use Rattle.overlay_maps.proofs.RoomLaws.{layer_room}
use Rattle.overlay_maps.proofs.HeldLaws.{held-maps, layers-held}
use Rattle.overlay_fill.proofs.files.from_files_in.Goals as goal

pub lay_maps-c-requires : goal.lay_maps-c-requires
lay_maps-c-requires g c =
    let files = c.args.zones.now ∷ c.args.blocks.now ∷ c.args.bed.now ∷ [] in
    layer_room files c.requires.fact_1

pub from_layers-requires : goal.from_layers-requires
from_layers-requires g c =
    let a = c.args in
    let laid = c.lay_maps-c.ensures in
    let none = sym laid.0 ∙ ap verdict c.in-Ok.is in
    let files = a.zones.now ∷ a.blocks.now ∷ a.bed.now ∷ [] in
    layers-held files _ _ (laid.1 none) refl (layer_room files c.requires.fact_1) (all_pass files none)

pub returns-in-Err : goal.returns-in-Err
returns-in-Err g c =
    let a = c.args in
    c.refuse.ensures
    ∙ g.met.L.Layout.refuses_files (a.zones.now ∷ a.blocks.now ∷ a.bed.now ∷ []) (lengths_of (tables_by a.vertices.now a.halves.now a.sources.now a.faces.now)) _ (sym c.lay_maps-c.ensures.0 ∙ ap verdict c.in-Err.is)

pub returns-in-Ok : goal.returns-in-Ok
returns-in-Ok g c =
    let a = c.args in
    let laid = c.lay_maps-c.ensures in
    let none = sym laid.0 ∙ ap verdict c.in-Ok.is in
    let files = a.zones.now ∷ a.blocks.now ∷ a.bed.now ∷ [] in
    let lengths = lengths_of (tables_by a.vertices.now a.halves.now a.sources.now a.faces.now) in
    c.from_layers.ensures
    ∙ ap (λ (ms : List Map). g.L.Layout.laid ms lengths) (held-maps files _ _ (laid.1 none) refl)
    ∙ g.met.L.Layout.passes_files files lengths refl none
