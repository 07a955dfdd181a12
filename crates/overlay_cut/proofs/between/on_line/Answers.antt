-- `overlay_cut::between::on_line` meets its contract. Assumes nothing.
use mathlib.Core.Path.{◌∙◌}
use Rattle.laws_cut.specs.Between.{the_on_line}
use Rattle.plane.proofs.Machine.{pt_back, seg_back}
use Rattle.overlay_cut.proofs.between.on_line.Goals as goal
use Rattle.overlay_cut.proofs.between.on_line.Goals.{Start}

pub returns : goal.returns
returns c =
    let s = c.args.s in
    let p = c.args.p in
    c.across.ensures ∙ (λ i. the_on_line (seg_back s.x s.y s.u s.v c.requires.0 i) (pt_back p.x p.y p.d c.requires.1 i))
