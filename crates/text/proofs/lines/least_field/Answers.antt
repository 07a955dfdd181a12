-- `text::lines::least_field` meets its contract. Assumes nothing.
use native.Mathlib.Omega.{arith}
use Rattle.text.proofs.LineLaws.{put_as, least_none, least_some}
use Rattle.text.proofs.lines.least_field.Goals as goal

pub returns-then-face-eq0 : goal.returns-then-face-eq0
returns-then-face-eq0 c = let a = c.args in put_as c.words.ensures (least_none a.face a.least c.if-face-eq0.true) (omega arith)

pub returns-else-face-eq0 : goal.returns-else-face-eq0
returns-else-face-eq0 c = let a = c.args in put_as c.field.ensures (least_some a.face a.least c.if-face-eq0.false) (omega arith)
