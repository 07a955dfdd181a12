-- `map_check::labels::is_smallest` meets its contract: what is left of the walk has none exactly if the walk has none. Assumes nothing.
use Rattle.std.specs.Prelude.{◌-◌}
use Rattle.map_check.specs.Labels.{earlier_at}
use Rattle.map_check.specs.Laws.Walking.{Walking}
use Rattle.map_check.proofs.labels.is_smallest.Given as goal

abbrev pub invariant-loop-step : goal.invariant-loop-step
invariant-loop-step l = Walking (earlier_at l.points l.origins l.h) l.next l.h l.m l.x (l.m - l._step)
