-- `graph_faces::looking::seen_from` meets its contract. Assumes nothing.
use Rattle.std.specs.Prelude.{◌+◌, ◌*◌}
use mathlib.Core.Path.{sym, ◌∙◌, ap, subst}
use Prim.Native.Nat.{◌≤◌}
use native.Mathlib.Omega.{arith}
use Rattle.seq.specs.Seq.{Bool, true, false, cond, List, Option, some, Option·map, Option·getD, ℕ, ℤ}
use Rattle.paper.specs.Limits.{absent}
use Rattle.paper.specs.Plane.{Pt, nowhere}
use Rattle.paper.specs.Graph.{east_side, west}
use Rattle.plane.specs.Values.{pt_of}
use Rattle.plane.specs.Bounds.{Near}
use Rattle.graph.specs.Flat.{flat_graph}
use Rattle.graph.specs.Heading.{the_up_at, flat_ends}
use Rattle.graph.specs.Look.{the_seen_of, east_at, flat-west, seen_below, seen-east}
use Rattle.graph_faces.proofs.looking.seen_from.Goals as goal

east_by : (k : ℕ) (c : Bool) → cond c (2 * k + 1) (2 * k) ≤ 2 * k + 1
east_by k true = omega arith
east_by k false = omega arith

east-le : (ps : List ℤ) (os : List ℕ) (k : ℕ) → east_at ps os k ≤ 2 * k + 1
east-le ps os k = east_by k (the_up_at ps os (2 * k))

pub east_side-requires : goal.east_side-requires
east_side-requires c =
    let a = c.args in
    let F = c.requires.fact_1.flat in
    let k = c.in-Some.k in
    let p = pt_of c.point_at-p.result in
    let near = subst Near (sym c.point_at-p.ensures) (F.points.near a.v c.requires.fact_2) in
    let q = sym c.look_from-seen.ensures ∙ ap the_seen_of c.in-Some.is in
    let l = seen_below a.g.points.now a.g.origins.now a.g.carriers.now a.g.vertices a.g.edges F p near nowhere k q in
    let ends = flat_ends a.g.points.now a.g.origins.now a.g.carriers.now a.g.vertices a.g.edges F k l in
    (omega (arith, c.requires.fact_1.small), ends.0, ends.1)

pub overflow_cast-result : goal.overflow_cast-result
overflow_cast-result c =
    let a = c.args in
    let F = c.requires.fact_1.flat in
    let k = c.in-Some.k in
    let p = pt_of c.point_at-p.result in
    let near = subst Near (sym c.point_at-p.ensures) (F.points.near a.v c.requires.fact_2) in
    let q = sym c.look_from-seen.ensures ∙ ap the_seen_of c.in-Some.is in
    omega (arith, c.requires.fact_1.small, seen_below a.g.points.now a.g.origins.now a.g.carriers.now a.g.vertices a.g.edges F p near nowhere k q, c.east_side.ensures, east-le a.g.points.now a.g.origins.now k)

pub returns-in-None : goal.returns-in-None
returns-in-None c =
    let a = c.args in
    let F = c.requires.fact_1.flat in
    let g = flat_graph a.g.points.now a.g.origins.now a.g.carriers.now a.g.vertices a.g.edges in
    let p = pt_of c.point_at-p.result in
    let near = subst Near (sym c.point_at-p.ensures) (F.points.near a.v c.requires.fact_2) in
    ap (λ (o : Option ℕ). Option·getD o absent)
    (ap (Option·map (east_side g)) (sym (ap the_seen_of c.in-None.is) ∙ c.look_from-seen.ensures) ∙ flat-west a.g.points.now a.g.origins.now a.g.carriers.now a.g.vertices a.g.edges F p near nowhere
    ∙ ap (λ (q : Pt). west g q nowhere) c.point_at-p.ensures)

pub returns-in-Some : goal.returns-in-Some
returns-in-Some c =
    let a = c.args in
    let F = c.requires.fact_1.flat in
    let g = flat_graph a.g.points.now a.g.origins.now a.g.carriers.now a.g.vertices a.g.edges in
    let k = c.in-Some.k in
    let p = pt_of c.point_at-p.result in
    let near = subst Near (sym c.point_at-p.ensures) (F.points.near a.v c.requires.fact_2) in
    let q = sym c.look_from-seen.ensures ∙ ap the_seen_of c.in-Some.is in
    ap (λ (o : Option ℕ). Option·getD o absent)
    (ap some c.east_side.ensures ∙ seen-east a.g.points.now a.g.origins.now a.g.carriers.now a.g.vertices a.g.edges F p near nowhere k q ∙ ap (λ (q : Pt). west g q nowhere) c.point_at-p.ensures)
