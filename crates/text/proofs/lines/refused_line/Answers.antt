-- `text::lines::refused_line` meets its contract. Assumes nothing.
use native.Mathlib.Omega.{arith}
use Rattle.text.proofs.LineLaws.{put-line}
use Rattle.text.proofs.lines.refused_line.Goals as goal

pub returns : goal.returns
returns c = put-line c.put_refused.ensures (omega arith) (omega arith)
