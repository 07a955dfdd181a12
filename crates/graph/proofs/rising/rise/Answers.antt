-- `graph::rising::rise` meets its contract. Assumes nothing.
use Rattle.std.specs.Prelude.{◌-◌}
use mathlib.Core.Path.{◌≡◌, sym, ◌∙◌}
use native.Mathlib.Omega.{arith}
use borrow.Author.Rules.{rules}
use Rattle.seq.specs.Tests.{was-true}
use Rattle.paper.specs.Plane.{before}
use Rattle.graph.specs.Flat.{the_point_at}
use Rattle.graph.specs.Rising.{rises_turns}
use Rattle.graph.proofs.rising.rise.Goals as goal
use Rattle.graph.proofs.rising.rise.Goals.{After-before-in-loop-v, In-loop-v, Start}

abbrev begun : After-before-in-loop-v → Start
begun c = search rules

abbrev turn : After-before-in-loop-v → In-loop-v
turn c = search rules

-- what the test says
told : (c : After-before-in-loop-v) → c.before-in-loop-v.result ≡ before (the_point_at (begun c).args.points.now ((turn c).before.loop-v.v - 1)) (the_point_at (begun c).args.points.now (turn c).before.loop-v.v)
told c =
    c.before-in-loop-v.ensures ∙ (λ j. before (c.point_at.ensures j) (c.point_at-in-loop-v.ensures j))

pub loop-v-preserved : goal.loop-v-preserved
loop-v-preserved c =
    let l = c.loop-v in
    (omega arith, rises_turns c.args.points.now c.args.n c.requires l.v c.loop-v-test.true l.invariant.0 l.invariant.1 (sym (told (goal.at.loop-v-preserved c).After-before-in-loop-v) ∙ was-true c.before-in-loop-v.result c.if-not-before.false-raw))
