-- `tide::judge::ratio_in` meets its contract. Assumes nothing.
use mathlib.Core.Path.{◌∙◌}
use Rattle.laws_tide.specs.Ends.{ratio_first, ratio-second}
use Rattle.tide.proofs.judge.ratio_in.Goals as goal

pub returns-then-x : goal.returns-then-x
returns-then-x c = ratio-second c.args.x c.if-x.true

pub returns-else-x : goal.returns-else-x
returns-else-x c = c.if-x.false ∙ ratio_first c.args.x c.if-x.false
