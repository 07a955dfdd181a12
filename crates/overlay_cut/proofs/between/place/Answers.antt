-- `overlay_cut::between::place` meets its contract: the rows below `low` come before the corner, and the row at `high` does not. Assumes nothing.
use mathlib.Core.Path.{sym, ◌∙◌, ap, subst}
use native.Mathlib.Omega.{arith}
use Rattle.seq.specs.Seq.{not}
use Rattle.seq.specs.Halves.{middle, reached, halve_starts, halve_up, halve_down}
use Rattle.seq.proofs.Halves.{halve_ends}
use Rattle.paper.specs.Plane.{Pt, whole, before}
use Rattle.plane.specs.Bounds.{Near}
use Rattle.plane.specs.Values.{vec_of}
use Rattle.graph.specs.Flat.{the_point_at}
use Rattle.overlay_cut.specs.Between.{place_last}
use borrow.Author.Rules.{rules}
use Rattle.overlay_cut.proofs.between.place.Goals as goal
use Rattle.overlay_cut.proofs.between.place.Goals.{At-loop-low, Else-before_corner, Start, Then-before_corner}

pub point_at-requires : goal.point_at-requires
point_at-requires c =
    omega (arith, c.loop-low.invariant.within, c.requires.fact_1.long)

pub before_corner-requires : goal.before_corner-requires
before_corner-requires c =
    let l = c.loop-low in
    (subst Near (sym c.point_at.ensures) (c.requires.fact_1.near (middle l.low l.high) (omega (arith, l.invariant.within))), c.requires.fact_2)

pub loop-low-preserved-then-before_corner : goal.loop-low-preserved-then-before_corner
loop-low-preserved-then-before_corner c =
    let l = c.loop-low in
    let a = c.args in
    halve_up (reached before (the_point_at a.points.now) (whole (vec_of a.a))) l.invariant (middle l.low l.high) (omega arith) (omega arith)
    (place_last a.points.now a.n c.requires.fact_3 c.requires.fact_1 (whole (vec_of a.a)) (record { lt = tt }))
    (ap not (sym (c.before_corner.ensures ∙ ap (λ (q : Pt). before q (whole (vec_of a.a))) c.point_at.ensures) ∙ c.if-before_corner.true))

pub loop-low-preserved : goal.loop-low-preserved
loop-low-preserved c =
    let l = c.loop-low in
    let a = c.args in
    halve_down (reached before (the_point_at a.points.now) (whole (vec_of a.a))) l.invariant (middle l.low l.high) (omega arith) (omega arith)
    (ap not (sym (c.before_corner.ensures ∙ ap (λ (q : Pt). before q (whole (vec_of a.a))) c.point_at.ensures) ∙ c.if-before_corner.false))

pub returns : goal.returns
returns c =
    let a = c.args in
    halve_ends (reached before (the_point_at a.points.now) (whole (vec_of a.a))) c.loop-low.invariant (search rules)

pub loop-low-init : goal.loop-low-init
loop-low-init c = halve_starts _ _
