-- `tide::judge::weight_in` meets its contract. Assumes nothing.
use mathlib.Core.Path.{◌∙◌}
use Rattle.laws_tide.specs.Ends.{weight_first, weight-second}
use Rattle.tide.proofs.judge.weight_in.Goals as goal

pub returns-then-x : goal.returns-then-x
returns-then-x c = weight-second c.args.x c.if-x.true

pub returns-else-x : goal.returns-else-x
returns-else-x c = c.if-x.false ∙ weight_first c.args.x c.if-x.false
