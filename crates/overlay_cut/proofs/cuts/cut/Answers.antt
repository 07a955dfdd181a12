-- `overlay_cut::cuts::cut` meets its contract: the pieces along the threads are those of the edges. Assumes nothing.
use mathlib.Core.Path.{refl, ◌∙◌, ap}
use mathlib.Core.List.{[]}
use Rattle.overlay_cut.specs.Cutting.{puts}
use Rattle.overlay_cut.specs.Laws.Along.{threads-strung, threads_all}
use Rattle.overlay_cut.proofs.cuts.cut.Goals as goal
use Rattle.overlay_cut.proofs.cuts.cut.Goals.{After-thread_all, Start, Then-t-limit}

pub thread_all-requires : goal.thread_all-requires
thread_all-requires c =
    let K = c.requires.fact_1 in
    let h = c.if-t-limit.true in
    record { fact_1 = (c.args.chart.carriers.now, c.args.chart.starting); fact_2 = (threads-strung (K.1 h) K.0 h, c.args.chart.few); fact_3 = c.requires.fact_2 }

pub returns-then-t-limit : goal.returns-then-t-limit
returns-then-t-limit c =
    let r = c.thread_all.ensures in
    (r.0, r.1 ∙ ap (puts c.args.room []) (threads_all (c.requires.fact_1.1 c.if-t-limit.true) c.args.chart.starting refl))
