-- `tide::judge::gauge` meets its contract. Assumes nothing.
use mathlib.Core.Path.{sym, ap, ◌∙◌}
use Rattle.paper.specs.Tide.{gauge}
use Rattle.laws_tide.specs.Ends.{zero-gauge}
use Rattle.tide.specs.Answer.{reading_of}
use Rattle.tide.proofs.judge.gauge.Goals as goal

pub returns-in-None : goal.returns-in-None
returns-in-None c = zero-gauge ∙ sym (ap (λ r. gauge (reading_of r)) c.in-None.is)
