-- `text::lines::gaps_line` meets its contract. Assumes nothing.
use mathlib.Core.Path.{refl}
use native.Mathlib.Omega.{arith}
use Rattle.text.proofs.LineLaws.{put-behind, put_as}
use Rattle.text.proofs.lines.gaps_line.Goals as goal

pub returns : goal.returns
returns c =
    put_as (put-behind c.field-at.ensures c.words.ensures) refl (omega arith)
