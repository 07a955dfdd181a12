-- The run of what a batch changes, with a look. Assumes nothing.
use Rattle.laws_soundings.specs.Run.{Look, Run}
use Rattle.soundings.specs.State.{run_by}
use Rattle.soundings.specs.declared.tally.Tally.{Tally}

abbrev pub run_at : Look → Tally → Run
run_at m t = run_by m t.bytes t.labels t.counts t.progress
