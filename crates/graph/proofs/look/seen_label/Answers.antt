-- `graph::look::seen_label` meets its contract. Assumes nothing.
use mathlib.Core.Path.{sym, ap, ◌∙◌}
use native.Mathlib.Omega.{arith}
use Rattle.plane.specs.Values.{pt_of, vec_of}
use Rattle.graph.specs.Flat.{flat_graph}
use Rattle.graph.specs.Laws.Decode.{flat-halves}
use Rattle.graph.specs.Look.{the_seen_of}
use Rattle.laws_graph.specs.West.{look_below}
use Rattle.graph.proofs.look.seen_label.Goals as goal

pub bounds-labels-x : goal.bounds-labels-x
bounds-labels-x c =
    let ps = c.args.g.points.now in
    let os = c.args.g.origins.now in
    let cs = c.args.g.carriers.now in
    let n = c.args.g.vertices in
    let e = c.args.g.edges in
    let q = sym c.seen_half.ensures ∙ ap the_seen_of c.in-Some.is in
    let l = look_below (flat_graph ps os cs n e) (pt_of c.args.p) (vec_of c.args.d) c.in-Some.x q in
    omega (arith, l, flat-halves ps os cs n e, c.requires.fact_3)
