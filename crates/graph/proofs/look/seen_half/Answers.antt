-- `graph::look::seen_half` meets its contract. Assumes nothing.
use Rattle.std.specs.Prelude.{◌+◌, ◌*◌}
use mathlib.Core.Path.{sym, ◌∙◌, ap}
use Prim.Native.Nat.{◌≤◌}
use native.Mathlib.Omega.{arith}
use Rattle.seq.specs.Seq.{Bool, true, false, cond, List, some, Option·map, ℕ, ℤ}
use Rattle.paper.specs.Graph.{east_side}
use Rattle.plane.specs.Values.{pt_of, vec_of}
use Rattle.graph.specs.Flat.{flat_graph}
use Rattle.graph.specs.Heading.{the_up_at, flat_ends}
use Rattle.graph.specs.Look.{the_seen_of, east_at, flat-west, seen_below, seen-east}
use Rattle.graph.proofs.look.seen_half.Goals as goal

east_by : (k : ℕ) (c : Bool) → cond c (2 * k + 1) (2 * k) ≤ 2 * k + 1
east_by k true = omega arith
east_by k false = omega arith

east-le : (ps : List ℤ) (os : List ℕ) (k : ℕ) → east_at ps os k ≤ 2 * k + 1
east-le ps os k = east_by k (the_up_at ps os (2 * k))

pub east_side-requires : goal.east_side-requires
east_side-requires c =
    let ps = c.args.g.points.now in
    let os = c.args.g.origins.now in
    let cs = c.args.g.carriers.now in
    let n = c.args.g.vertices in
    let e = c.args.g.edges in
    let p = pt_of c.args.p in
    let d = vec_of c.args.d in
    let k = c.in_ok-k.k in
    let q = sym c.in_ok-k.ensures in
    let l = seen_below ps os cs n e c.requires.fact_1 p c.requires.fact_3 d k q in
    let ends = flat_ends ps os cs n e c.requires.fact_1 k l in
    (omega (arith, c.requires.fact_2), ends.0, ends.1)

pub overflow_cast-result : goal.overflow_cast-result
overflow_cast-result c =
    let ps = c.args.g.points.now in
    let os = c.args.g.origins.now in
    let cs = c.args.g.carriers.now in
    let n = c.args.g.vertices in
    let e = c.args.g.edges in
    let p = pt_of c.args.p in
    let d = vec_of c.args.d in
    let k = c.in_ok-k.k in
    let q = sym c.in_ok-k.ensures in
    omega (arith, c.requires.fact_2, seen_below ps os cs n e c.requires.fact_1 p c.requires.fact_3 d k q, c.east_side.ensures, east-le ps os k)

pub returns-in_err-k : goal.returns-in_err-k
returns-in_err-k c =
    let ps = c.args.g.points.now in
    let os = c.args.g.origins.now in
    let cs = c.args.g.carriers.now in
    let n = c.args.g.vertices in
    let e = c.args.g.edges in
    ap the_seen_of c.from_residual.ensures ∙ ap (Option·map (east_side (flat_graph ps os cs n e))) c.in_err-k.ensures ∙ flat-west ps os cs n e c.requires.fact_1 (pt_of c.args.p) c.requires.fact_3 (vec_of c.args.d)

pub returns : goal.returns
returns c =
    let ps = c.args.g.points.now in
    let os = c.args.g.origins.now in
    let cs = c.args.g.carriers.now in
    let n = c.args.g.vertices in
    let e = c.args.g.edges in
    let p = pt_of c.args.p in
    let d = vec_of c.args.d in
    let k = c.in_ok-k.k in
    let q = sym c.in_ok-k.ensures in
    ap some c.east_side.ensures ∙ seen-east ps os cs n e c.requires.fact_1 p c.requires.fact_3 d k q
