-- `lay` of `overlay::Whole` meets its contract. Assumes nothing.
use mathlib.Core.Path.{◌∙◌, ap}
use native.Mathlib.Omega.{arith}
use Rattle.paper.specs.Faces.{Overlay}
use Rattle.paper.specs.Lent.{lengths_of}
use Rattle.tables.specs.Values.{tables_by}
use Rattle.overlay_maps.specs.Held.{held_maps}
use Rattle.overlay_maps.specs.Given.{the_layers}
use Rattle.overlay_graph.specs.Given.{the_cut}
use Rattle.overlay_graph.specs.Laws.Drawing.{overlay_in_lem}
use Rattle.overlay_fill.specs.Judged.{laid_out}
use Rattle.overlay.proofs.WholeLayout.lay.Goals as goal

pub from_cut-requires : goal.from_cut-requires
from_cut-requires c = c.requires.ready

pub returns : goal.returns
returns c =
    let a = c.args in
    let p = c.requires in
    let ms = held_maps (the_layers a.layers) in
    c.from_cut.ensures
    ∙ ap (λ (o : Overlay). laid_out ms o (lengths_of (tables_by a.vertices.now a.halves.now a.sources.now a.faces.now)))
    (overlay_in_lem ms (the_cut a.cut) p.cut_of p.ready.drawable.few_vertices p.ready.drawable.few_edges)
