-- `overlay_cut::cutting::link` meets its contract. Assumes nothing.
use mathlib.Core.Path.{◌∙◌}
use Rattle.paper.specs.Limits.{maps}
use Rattle.paper.specs.Pieces.{only}
use Rattle.overlay_cut.specs.Links.{pieced}
use Rattle.overlay_cut.specs.Cutting.{link_none, link_one}
use Rattle.overlay_cut.proofs.cutting.link.Goals as goal
use Rattle.overlay_cut.proofs.cutting.link.Goals.{After-put, Else-n-next, Start}

pub returns-then-n-next : goal.returns-then-n-next
returns-then-n-next c =
    let a = c.args in
    (c.requires.fact_1, link_none a.room a.n a.next a.v (only maps a.m a.number) (pieced a.rows.now a.count) c.if-n-next.true)

pub returns : goal.returns
returns c =
    let a = c.args in
    (c.put.ensures.0, c.put.ensures.1 ∙ link_one a.room a.n a.next a.v (only maps a.m a.number) (pieced a.rows.now a.count) c.if-n-next.false)
