-- `graph_faces::looking::look_from` meets its contract. Assumes nothing.
use mathlib.Core.Path.{sym, ◌∙◌, subst}
use Prim.Native.Nat.{◌<◌}
use native.Mathlib.Omega.{arith}
use borrow.Author.Rules.{rules}
use Rattle.seq.specs.Seq.{ℕ}
use Rattle.seq.specs.Loops.Picking.{pick_starts, pick-most, pick_takes, pick-skips, pick-lacks, pick_has}
use Rattle.paper.specs.Plane.{nowhere}
use Rattle.plane.specs.Values.{pt_of}
use Rattle.plane.specs.Bounds.{Near}
use Rattle.graph.specs.Flat.{Carried}
use Rattle.graph.specs.Heading.{flat-carried}
use Rattle.graph.specs.Look.{flat-best}
use Rattle.graph_faces.proofs.looking.look_from.Goals as goal
use Rattle.graph_faces.proofs.looking.look_from.Goals.{Start, else-strictly_west, then-strictly_west}

-- the edges are carried, and p is a point
carried : (s : Start) (k : ℕ) → k < s.args.g.edges → Carried s.args.g.carriers.now k
carried s = flat-carried s.args.g.points.now s.args.g.origins.now s.args.g.carriers.now s.args.g.vertices s.args.g.edges s.requires.fact_1.flat

near : (s : Start) → Near (pt_of s.args.p)
near s = subst Near (sym s.requires.fact_2.1) (s.requires.fact_1.flat.points.near s.args.v s.requires.fact_2.0)

pub nearest-r-requires : goal.nearest-r-requires
nearest-r-requires c =
    let l = c.loop-k in
    (carried (goal.at.nearest-r-requires c).Start l.k c.loop-k-test.true, λ q. carried (goal.at.nearest-r-requires c).Start l.r q, pick-most l.invariant, near (goal.at.nearest-r-requires c).Start)

pub loop-k-preserved : goal.loop-k-preserved
loop-k-preserved c =
    let r = c.loop-k.invariant in
    let b = c.loop-k-test.true in
    let q = sym c.strictly_west.ensures in
    elim c.if-strictly_west.branch [ then-strictly_west w ↦ pick_takes r b (q ∙ w.if-strictly_west.true) ((search rules) ∙ w.nearest-r.ensures) | else-strictly_west w ↦ pick-skips r b (q ∙ w.if-strictly_west.false) (search rules) ]

pub overflow_cast-result : goal.overflow_cast-result
overflow_cast-result c =
    omega (arith, c.requires.fact_1.small, pick-most c.loop-k.invariant)

pub returns-then-r-g : goal.returns-then-r-g
returns-then-r-g c =
    pick-lacks c.loop-k.invariant (search rules) c.if-r-g.true ∙ flat-best c.args.g.points.now c.args.g.origins.now c.args.g.carriers.now c.args.g.vertices c.args.g.edges c.requires.fact_1.flat (pt_of c.args.p) (near (goal.at.returns-then-r-g c).Start) nowhere

pub returns-else-r-g : goal.returns-else-r-g
returns-else-r-g c =
    pick_has c.loop-k.invariant (search rules) c.if-r-g.false ∙ flat-best c.args.g.points.now c.args.g.origins.now c.args.g.carriers.now c.args.g.vertices c.args.g.edges c.requires.fact_1.flat (pt_of c.args.p) (near (goal.at.returns-else-r-g c).Start) nowhere
