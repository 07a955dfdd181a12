-- `map_check::near::lay_spans` meets its contract. Assumes nothing.
use Rattle.seq.specs.Loops.Filling.{fill_starts, fill_turns}
use Rattle.map_check.proofs.near.lay_spans.Goals as goal

pub loop-i-init : goal.loop-i-init
loop-i-init c = (fill_starts c.requires.fact_2.0, fill_starts c.requires.fact_2.1)

pub loop-i-preserved : goal.loop-i-preserved
loop-i-preserved c =
    let l = c.loop-i in
    (fill_turns l.invariant.0 c.loop-i-test.true c.span_in-span.ensures.west, fill_turns l.invariant.1 c.loop-i-test.true c.span_in-span.ensures.east)
