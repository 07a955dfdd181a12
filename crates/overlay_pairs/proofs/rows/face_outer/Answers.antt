-- `overlay_pairs::rows::face_outer` meets its contract: face 0, and another. Assumes nothing.
use mathlib.Core.Path.{◌∙◌}
use Rattle.overlay_pairs.specs.Labels.{outside-outer, inner-outer}
use Rattle.overlay_pairs.proofs.rows.face_outer.Goals as goal

pub returns-then-f-eq0 : goal.returns-then-f-eq0
returns-then-f-eq0 c = let a = c.args in outside-outer a.outers.now a.f c.if-f-eq0.true

pub returns : goal.returns
returns c = let a =
    c.args in c.outer_of.ensures ∙ inner-outer a.outers.now a.f c.if-f-eq0.false
