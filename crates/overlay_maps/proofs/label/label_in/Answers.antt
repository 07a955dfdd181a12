-- `overlay_maps::label::label_in` meets its contract. Assumes nothing.
use Rattle.plane.specs.Values.{pt_of, vec_of}
use Rattle.map_check.specs.Held.{flat_map}
use Rattle.overlay_maps.proofs.LabelLaws.{by_none, by_own}
use Rattle.overlay_maps.proofs.label.label_in.Goals as goal

pub returns-then-at-eq0 : goal.returns-then-at-eq0
returns-then-at-eq0 c =
    let a = c.args in
    by_none (flat_map a.m.points.now a.m.origins.now a.m.carriers.now a.m.labels.now a.m.vertices a.m.edges) a.at.half (pt_of a.at.low) (vec_of a.at.up) a.at.source _ c.if-at-eq0.true c.seen_label.ensures

pub returns : goal.returns
returns c =
    let a = c.args in
    by_own (flat_map a.m.points.now a.m.origins.now a.m.carriers.now a.m.labels.now a.m.vertices a.m.edges) a.at.half (pt_of a.at.low) (vec_of a.at.up) a.at.source _ c.if-at-eq0.false c.own_label.ensures
