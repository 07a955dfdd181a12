-- `plane::order::order` meets its contract: of one denominator the numbers tell the signs of two differences, and the definition picks as the code does. Assumes nothing.
use mathlib.Core.Path.{◌∙◌, ap}
use Rattle.exact.specs.Compare.{sign_of, cmp_sign, then_pick}
use Rattle.exact.specs.Exact.{pick}
use Rattle.plane.proofs.Fractions.{level-order}
use Rattle.plane.proofs.order.order.Goals as goal

pub returns-then-p-q : goal.returns-then-p-q
returns-then-p-q c =
    let p = c.args.p in
    let q = c.args.q in
    let n = c.requires in
    ap sign_of c.then.ensures ∙ then_pick c.cmp.result c.cmp-then-p-q.result
    ∙ (λ i. pick ((ap sign_of c.cmp.ensures ∙ cmp_sign p.y q.y) i) ((ap sign_of c.cmp-then-p-q.ensures ∙ cmp_sign p.x q.x) i))
    ∙ level-order p.x p.y p.d q.x q.y q.d n.0 n.1 c.if-p-q.true
