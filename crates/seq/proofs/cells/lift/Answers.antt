-- `lift` meets its contract. Assumes nothing.
use native.Mathlib.Omega.{arith}
use Rattle.seq.specs.Loops.Lifting.{lift_starts, lift_turns, lift_ends}
use Rattle.seq.proofs.cells.lift.Goals as goal

pub loop-i-init : goal.loop-i-init
loop-i-init g c = lift_starts c.requires.fact_1 c.requires.fact_2

pub loop-i-preserved : goal.loop-i-preserved
loop-i-preserved g c = lift_turns c.loop-i.invariant c.index-t-i.result (omega (arith, c.loop-i-test.true)) c.index-t-i.is

pub returns : goal.returns
returns g c = lift_ends c.loop-i.invariant (omega (arith, c.loop-i-test.false))
