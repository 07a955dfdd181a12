-- `overlay_maps::west::look` meets its contract. Assumes nothing.
use mathlib.Core.Path.{◌∙◌}
use Prim.Native.Nat.{◌<◌}
use native.Mathlib.Omega.{arith}
use Rattle.seq.specs.Seq.{ℕ}
use Rattle.seq.specs.Loops.Picking.{pick_starts, pick-most, pick-lacks, pick_has}
use Rattle.plane.specs.Values.{pt_of, vec_of}
use Rattle.graph.specs.Flat.{Carried}
use Rattle.graph.specs.Heading.{flat_ends, flat-carried}
use Rattle.graph.specs.Look.{flat-best}
use Rattle.overlay_maps.specs.Ended.{height_off, pick_turns}
use borrow.Author.Rules.{rules}
use Rattle.overlay_maps.proofs.west.look.Goals as goal
use Rattle.overlay_maps.proofs.west.look.Goals.{Start}

-- the edges are carried
carried : (s : Start) (k : ℕ) → k < s.args.m.edges → Carried s.args.m.carriers.now k
carried s = flat-carried s.args.m.points.now s.args.m.origins.now s.args.m.carriers.now s.args.m.vertices s.args.m.edges s.requires.fact_1.flat

pub take-r-requires : goal.take-r-requires
take-r-requires c =
    let a = c.args in
    let k = c.loop-k.k in
    let l = c.loop-k-test.true in
    let ends = flat_ends a.m.points.now a.m.origins.now a.m.carriers.now a.m.vertices a.m.edges c.requires.fact_1.flat k l in record {
      fact_1 = (omega (arith, c.requires.fact_1.few), ends.0, ends.1, carried (goal.at.take-r-requires c).Start k l, λ q. carried (goal.at.take-r-requires c).Start c.loop-k.r q, pick-most c.loop-k.invariant, c.requires.fact_2, c.requires.fact_3);
      fact_2 = height_off a.m.points.now a.m.origins.now a.m.carriers.now a.m.vertices a.m.edges c.requires.fact_1.flat c.requires.fact_1.ended (pt_of a.p) c.requires.fact_2 (vec_of a.d) k l;
    }

pub loop-k-preserved : goal.loop-k-preserved
loop-k-preserved c =
    pick_turns c.loop-k.invariant c.take-r.result (search rules) c.take-r.ensures

pub returns-then-r-m : goal.returns-then-r-m
returns-then-r-m c =
    pick-lacks c.loop-k.invariant (search rules) c.if-r-m.true ∙ flat-best c.args.m.points.now c.args.m.origins.now c.args.m.carriers.now c.args.m.vertices c.args.m.edges c.requires.fact_1.flat (pt_of c.args.p) c.requires.fact_2 (vec_of c.args.d)

pub returns-else-r-m : goal.returns-else-r-m
returns-else-r-m c =
    pick_has c.loop-k.invariant (search rules) c.if-r-m.false ∙ flat-best c.args.m.points.now c.args.m.origins.now c.args.m.carriers.now c.args.m.vertices c.args.m.edges c.requires.fact_1.flat (pt_of c.args.p) c.requires.fact_2 (vec_of c.args.d)

pub loop-k-init : goal.loop-k-init
loop-k-init c = pick_starts

pub overflow_cast-result : goal.overflow_cast-result
overflow_cast-result c = omega (arith, c.requires.fact_1.few, pick-most c.loop-k.invariant)
