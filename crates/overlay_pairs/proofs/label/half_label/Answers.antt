-- `overlay_pairs::label::half_label` meets its contract: by its source, and where it has none by what is seen. Assumes nothing.
use mathlib.Core.Path.{◌∙◌, ap}
use Prim.Native.Nat.{◌-◌}
use native.Mathlib.Omega.{arith}
use Rattle.paper.specs.Map.{Map}
use Rattle.overlay_maps.specs.Label.{own_label}
use Rattle.overlay_maps.specs.Place.{label_at}
use Rattle.overlay_maps.specs.Layers.{Layers}
use Rattle.overlay_maps.specs.Given.{the_layers}
use Rattle.overlay_maps.specs.Held.{held_map}
use Rattle.overlay_pairs.specs.Labels.{placed-label, part-stands, part-map, part-edges, own-half}
use Rattle.overlay_pairs.proofs.label.half_label.Goals as goal
use Rattle.overlay_pairs.proofs.label.half_label.Goals.{Start}

abbrev L : Start → Layers
L s = the_layers s.args.layers

pub part_of-part-requires : goal.part_of-part-requires
part_of-part-requires c =
    let p = c.requires in
    (omega (arith, p.fact_1.vertices_long, p.fact_2.placed.of_maps), omega (arith, p.fact_1.edges_long, p.fact_2.placed.of_maps))

pub source_in-source-requires : goal.source_in-source-requires
source_in-source-requires c =
    record { fact_1 = c.requires.fact_2.placed.row; fact_2 = omega (arith, c.requires.fact_2.placed.of_maps) }

pub place_of-at-requires : goal.place_of-at-requires
place_of-at-requires c =
    c.requires.fact_2.placed

pub label_at-requires : goal.label_at-requires
label_at-requires c =
    let b = c.requires.fact_2.placed.of_maps in
    let p = c.place_of-at.ensures in record {
      fact_1 = part-stands (L (goal.at.label_at-requires c).Start) c.requires.fact_1 c.args.m b _ c.part_of-part.ensures;
      fact_2 = omega (arith, p.source_is, c.requires.fact_2.source-most, part-edges (L (goal.at.label_at-requires c).Start) c.requires.fact_1 c.args.m b _ c.part_of-part.ensures);
      fact_3 = (p.near, p.direction);
    }

pub returns-then-source-eq0 : goal.returns-then-source-eq0
returns-then-source-eq0 c =
    let a = c.args in
    c.label_at.ensures ∙ ap (λ (y : Map). label_at y c.place_of-at.result) (part-map (L (goal.at.returns-then-source-eq0 c).Start) c.requires.fact_1 a.m c.requires.fact_2.placed.of_maps _ c.part_of-part.ensures)
    ∙ placed-label a.cut.points.now a.net.ends.now a.net.lines.now a.cut.pieces.now a.m _ (held_map (L (goal.at.returns-then-source-eq0 c).Start) a.m) a.x c.place_of-at.ensures

pub own_at-requires : goal.own_at-requires
own_at-requires c =
    let b = c.requires.fact_2.placed.of_maps in
    record {
      fact_1 = part-stands (L (goal.at.own_at-requires c).Start) c.requires.fact_1 c.args.m b _ c.part_of-part.ensures;
      fact_2 = omega (arith, c.if-source-eq0.false, c.source_in-source.ensures, c.requires.fact_2.source-most, part-edges (L (goal.at.own_at-requires c).Start) c.requires.fact_1 c.args.m b _ c.part_of-part.ensures);
    }

pub returns : goal.returns
returns c =
    let a = c.args in
    c.own_at.ensures ∙ ap (λ (y : Map). own_label y a.x (c.source_in-source.result - 1)) (part-map (L (goal.at.returns c).Start) c.requires.fact_1 a.m c.requires.fact_2.placed.of_maps _ c.part_of-part.ensures)
    ∙ own-half (held_map (L (goal.at.returns c).Start) a.m) a.cut.points.now a.net.ends.now a.net.lines.now a.cut.pieces.now a.m a.x (c.source_in-source.result - 1) (omega (arith, c.if-source-eq0.false, c.source_in-source.ensures))
