-- `overlay_maps::west::seen_label` meets its contract. Assumes nothing.
use mathlib.Core.Path.{◌≡◌, sym, ◌∙◌, ap}
use Prim.Native.Nat.{◌*◌, ◌<◌}
use native.Mathlib.Omega.{arith}
use Rattle.seq.specs.Seq.{some, ℕ, get_or, or_zero, Option·map, best}
use Rattle.paper.specs.Graph.{east_side, nearer}
use Rattle.laws_graph.specs.West.{candidate}
use Rattle.plane.specs.Values.{pt_of, vec_of}
use Rattle.graph.specs.Flat.{flat_graph}
use Rattle.graph.specs.Heading.{flat_ends}
use Rattle.graph.specs.Look.{the_seen_of, east_at, flat-west, seen_below, seen-east}
use Rattle.overlay_maps.specs.Ended.{east-most}
use Rattle.overlay_maps.proofs.west.seen_label.Goals as goal
use Rattle.overlay_maps.proofs.west.seen_label.Goals.{After-east_side, After-look, Start}

-- the edge that is seen is one of the map's
below-e : (s : Start) (k : ℕ) →
    best (candidate (flat_graph s.args.m.points.now s.args.m.origins.now s.args.m.carriers.now s.args.m.vertices s.args.m.edges) (pt_of s.args.p) (vec_of s.args.d))
    (nearer (flat_graph s.args.m.points.now s.args.m.origins.now s.args.m.carriers.now s.args.m.vertices s.args.m.edges) (pt_of s.args.p)) s.args.m.edges ≡ some k → k < s.args.m.edges
below-e s k q =
    let a = s.args in
    seen_below a.m.points.now a.m.origins.now a.m.carriers.now a.m.vertices a.m.edges s.requires.fact_1.flat (pt_of a.p) s.requires.fact_2 (vec_of a.d) k q

pub east_side-requires : goal.east_side-requires
east_side-requires c =
    let a = c.args in
    let k = c.in-Some.k in
    let l = below-e (goal.at.east_side-requires c).Start k (sym c.look.ensures ∙ ap the_seen_of c.in-Some.is) in
    let ends = flat_ends a.m.points.now a.m.origins.now a.m.carriers.now a.m.vertices a.m.edges c.requires.fact_1.flat k l in
    (omega (arith, c.requires.fact_1.few), ends.0, ends.1)

-- and what is seen is one of its half-edges
half-within : (c : After-east_side) (s : Start) (a : After-look) → c.east_side.result ≡ east_at s.args.m.points.now s.args.m.origins.now c.in-Some.k →
    c.in-Some.k < s.args.m.edges → c.east_side.result < 2 * s.args.m.edges
half-within c s a e l = omega (arith, e, l, east-most s.args.m.points.now s.args.m.origins.now c.in-Some.k)

pub offset_bounds-m-east_side : goal.offset_bounds-m-east_side
offset_bounds-m-east_side c =
    let l = below-e (goal.at.offset_bounds-m-east_side c).Start c.in-Some.k (sym c.look.ensures ∙ ap the_seen_of c.in-Some.is) in
    omega (arith, half-within (goal.at.offset_bounds-m-east_side c).After-east_side (goal.at.offset_bounds-m-east_side c).Start (goal.at.offset_bounds-m-east_side c).After-look c.east_side.ensures l, c.requires.fact_1.few)

pub bounds-m-east_side : goal.bounds-m-east_side
bounds-m-east_side c =
    let l = below-e (goal.at.bounds-m-east_side c).Start c.in-Some.k (sym c.look.ensures ∙ ap the_seen_of c.in-Some.is) in
    omega (arith, half-within (goal.at.bounds-m-east_side c).After-east_side (goal.at.bounds-m-east_side c).Start (goal.at.bounds-m-east_side c).After-look c.east_side.ensures l, c.requires.fact_1.labels_in)

pub returns-in-None : goal.returns-in-None
returns-in-None c =
    let t = c.args in
    let g = flat_graph t.m.points.now t.m.origins.now t.m.carriers.now t.m.vertices t.m.edges in
    ap (or_zero (λ (x : ℕ). get_or t.m.labels.now x 0))
    (ap (Option·map (east_side g)) (sym (ap the_seen_of c.in-None.is) ∙ c.look.ensures)
    ∙ flat-west t.m.points.now t.m.origins.now t.m.carriers.now t.m.vertices t.m.edges c.requires.fact_1.flat (pt_of t.p) c.requires.fact_2 (vec_of t.d))

pub returns-in-Some : goal.returns-in-Some
returns-in-Some c =
    let t = c.args in
    let k = c.in-Some.k in
    let q = sym c.look.ensures ∙ ap the_seen_of c.in-Some.is in
    ap (or_zero (λ (x : ℕ). get_or t.m.labels.now x 0))
    (ap some c.east_side.ensures ∙ seen-east t.m.points.now t.m.origins.now t.m.carriers.now t.m.vertices t.m.edges c.requires.fact_1.flat (pt_of t.p) c.requires.fact_2 (vec_of t.d) k q)
