-- `plane::order::level_before` meets its contract: where both are as high, the numbers of x tell, and otherwise those of y. Assumes nothing.
use mathlib.Core.Path.{◌≡◌, ◌∙◌}
use mir.Syntax.{w64}
use borrow.Author.Rules.{rules}
use Rattle.exact.specs.Mach.{tr, trb, trbits, test, eq_yes, eq_no}
use Rattle.plane.proofs.Fractions.{first_level, first_apart}
use Rattle.plane.proofs.order.level_before.Goals as goal
use Rattle.plane.proofs.order.level_before.Goals.{Else-p-q, Start, Then-p-q}

pub returns-then-p-q : goal.returns-then-p-q
returns-then-p-q c =
    let p = c.args.p in
    let q = c.args.q in
    let e : p.y ≡ q.y = eq_yes w64 c.if-p-q.true (search trbits depth 20) (search trbits depth 20) tt in
    test (search trb depth 20) tt ∙ first_level p.x p.y q.x q.y e

pub returns-else-p-q : goal.returns-else-p-q
returns-else-p-q c =
    let p = c.args.p in
    let q = c.args.q in
    let d : p.y ≡ q.y → ⊥ = eq_no w64 c.if-p-q.false (search trbits depth 20) (search trbits depth 20) tt in
    test (search trb depth 20) tt ∙ first_apart p.x p.y q.x q.y d
