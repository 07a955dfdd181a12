-- `soundings::answer::finish` meets its contract. Assumes nothing.
use Rattle.soundings.specs.Answer.{tables-done}
use native.Mathlib.Omega.{arith}
use Rattle.soundings.proofs.answer.finish.Goals as goal

pub returns : goal.returns
returns c =
    let a = c.args in
    tables-done a.labels.now a.counts.now a.n a.soundings a.read _ _ c.requires.fact_1 c.requires.fact_2 c.wipe_from.ensures c.wipe_from-2.ensures
