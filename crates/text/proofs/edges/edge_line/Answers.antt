-- `text::edges::edge_line` meets its contract. Assumes nothing.
use native.Mathlib.Omega.{arith}
use Rattle.text.proofs.LineLaws.{put-behind, put-line}
use Rattle.text.proofs.edges.edge_line.Goals as goal

pub returns : goal.returns
returns c =
    put-line (put-behind (put-behind c.ends_field-at.ensures c.source_field-at.ensures) c.words.ensures) (omega arith) (omega arith)
