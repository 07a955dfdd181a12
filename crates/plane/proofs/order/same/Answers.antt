-- `plane::order::same` meets its contract: of one denominator the numbers tell. Assumes nothing.
use mathlib.Core.Path.{◌∙◌, ap}
use Rattle.exact.specs.Exact.{is_zer}
use Rattle.plane.proofs.Fractions.{level-order}
use Rattle.plane.proofs.order.same.Goals as goal

pub returns-then-p-q : goal.returns-then-p-q
returns-then-p-q c =
    let p = c.args.p in
    let q = c.args.q in
    c.level_same.ensures ∙ ap is_zer (level-order p.x p.y p.d q.x q.y q.d c.requires.0 c.requires.1 c.if-p-q.true)
