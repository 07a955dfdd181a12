-- `text::whole::refused_listing` meets its contract. Assumes nothing.
use native.Mathlib.Omega.{arith}
use Rattle.text.proofs.LineLaws.{put-line}
use Rattle.text.proofs.whole.refused_listing.Goals as goal

pub returns : goal.returns
returns c = put-line c.put_refused.ensures (omega arith) (omega arith)
