-- `overlay_maps::label::own_label` meets its contract: the first of the edge's half-edges goes up where the second does not start at the carrier's foot. Assumes nothing.
use mathlib.Core.Path.{refl, sym, ◌∙◌, ap}
use Prim.Native.Nat.{◌+◌, ◌*◌}
use native.Mathlib.Omega.{arith}
use Rattle.seq.specs.Seq.{not}
use Rattle.plane.specs.Values.{pt_of, seg_of}
use Rattle.graph.specs.Heading.{flat_starts, flat-carried}
use Rattle.map_check.specs.Held.{flat_map}
use Rattle.overlay_maps.specs.Ended.{foot_up}
use Rattle.overlay_maps.proofs.LabelLaws.{own-rising, own-falling}
use Rattle.overlay_maps.proofs.label.own_label.Goals as goal

pub carrier_at-s-requires : goal.carrier_at-s-requires
carrier_at-s-requires c =
    let a = c.args in
    flat-carried a.m.points.now a.m.origins.now a.m.carriers.now a.m.vertices a.m.edges c.requires.fact_1.flat a.k c.requires.fact_2

pub start-p-requires : goal.start-p-requires
start-p-requires c =
    let a = c.args in
    flat_starts a.m.points.now a.m.origins.now a.m.carriers.now a.m.vertices a.m.edges c.requires.fact_1.flat (2 * a.k + 1) (omega (arith, c.requires.fact_2))

pub returns-then-is_foot : goal.returns-then-is_foot
returns-then-is_foot c =
    let a = c.args in
    let up = foot_up a.m.points.now a.m.origins.now a.m.carriers.now a.m.vertices a.m.edges c.requires.fact_1.flat c.requires.fact_1.ended a.k c.requires.fact_2 (pt_of c.start-p.result) c.start-p.ensures.is (seg_of c.carrier_at-s.result) c.carrier_at-s.ensures.is in
    own-falling (flat_map a.m.points.now a.m.origins.now a.m.carriers.now a.m.labels.now a.m.vertices a.m.edges) a.h a.k _ (up ∙ ap not (sym c.is_foot.ensures ∙ c.if-is_foot.true)) refl

pub returns-else-is_foot : goal.returns-else-is_foot
returns-else-is_foot c =
    let a = c.args in
    let up = foot_up a.m.points.now a.m.origins.now a.m.carriers.now a.m.vertices a.m.edges c.requires.fact_1.flat c.requires.fact_1.ended a.k c.requires.fact_2 (pt_of c.start-p.result) c.start-p.ensures.is (seg_of c.carrier_at-s.result) c.carrier_at-s.ensures.is in
    own-rising (flat_map a.m.points.now a.m.origins.now a.m.carriers.now a.m.labels.now a.m.vertices a.m.edges) a.h a.k _ (up ∙ ap not (sym c.is_foot.ensures ∙ c.if-is_foot.false)) refl
