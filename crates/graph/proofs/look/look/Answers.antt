-- `graph::look::look` meets its contract. Assumes nothing.
use mathlib.Core.Path.{sym, ◌∙◌}
use Prim.Native.Nat.{◌<◌}
use native.Mathlib.Omega.{arith}
use borrow.Author.Rules.{rules}
use Rattle.seq.specs.Seq.{ℕ}
use Rattle.seq.specs.Loops.Picking.{pick-most, pick_takes, pick-skips, pick-lacks, pick_has}
use Rattle.plane.specs.Values.{pt_of, vec_of}
use Rattle.graph.specs.Flat.{Carried}
use Rattle.graph.specs.Heading.{flat-carried}
use Rattle.graph.specs.Look.{flat-best}
use Rattle.graph.proofs.look.look.Goals as goal
use Rattle.graph.proofs.look.look.Goals.{Start, then-candidate, else-candidate}

-- the edges are carried
carried : (s : Start) (k : ℕ) → k < s.args.g.edges → Carried s.args.g.carriers.now k
carried s = flat-carried s.args.g.points.now s.args.g.origins.now s.args.g.carriers.now s.args.g.vertices s.args.g.edges s.requires.fact_1

pub nearest-r-requires : goal.nearest-r-requires
nearest-r-requires c =
    let l = c.loop-k in
    (carried (goal.at.nearest-r-requires c).Start l.k c.loop-k-test.true, λ q. carried (goal.at.nearest-r-requires c).Start l.r q, pick-most l.invariant, c.requires.fact_3)

pub loop-k-preserved : goal.loop-k-preserved
loop-k-preserved c =
    let r = c.loop-k.invariant in
    let b = c.loop-k-test.true in
    let q = sym c.candidate.ensures in
    elim c.if-candidate.branch [ then-candidate w ↦ pick_takes r b (q ∙ w.if-candidate.true) (w.r-is ∙ w.nearest-r.ensures) | else-candidate w ↦ pick-skips r b (q ∙ w.if-candidate.false) w.r-is ]

pub overflow_cast-result : goal.overflow_cast-result
overflow_cast-result c =
    omega (arith, c.requires.fact_2, pick-most c.loop-k.invariant)

pub returns-then-r-e : goal.returns-then-r-e
returns-then-r-e c =
    pick-lacks c.loop-k.invariant (search rules) c.if-r-e.true ∙ flat-best c.args.g.points.now c.args.g.origins.now c.args.g.carriers.now c.args.g.vertices c.args.g.edges c.requires.fact_1 (pt_of c.args.p) c.requires.fact_3 (vec_of c.args.d)

pub returns-else-r-e : goal.returns-else-r-e
returns-else-r-e c =
    pick_has c.loop-k.invariant (search rules) c.if-r-e.false ∙ flat-best c.args.g.points.now c.args.g.origins.now c.args.g.carriers.now c.args.g.vertices c.args.g.edges c.requires.fact_1 (pt_of c.args.p) c.requires.fact_3 (vec_of c.args.d)
