-- `ovfile::bytes::number_of` meets its contract. Assumes nothing.
use Rattle.std.specs.Prelude.{◌+◌, ◌-◌}
use mathlib.Core.Path.{refl}
use native.Mathlib.Omega.{arith}
use Rattle.ovfile.proofs.BytesLaws.{read_starts, read_turns, read_ends, read_small}
use Rattle.ovfile.proofs.bytes.number_of.Goals as goal

pub overflow_mul-n : goal.overflow_mul-n
overflow_mul-n g c =
    omega (arith, read_small c.loop-i.invariant (λ i. (c.type_inv.file i).fits) (omega arith) c.loop-i-test.true)

pub overflow_add-n-in-loop-i : goal.overflow_add-n-in-loop-i
overflow_add-n-in-loop-i g c =
    omega (arith, read_small c.loop-i.invariant (λ i. (c.type_inv.file i).fits) (omega arith) c.loop-i-test.true, (c.type_inv.file (c.args.at + (c.loop-i.i - 1))).fits)

pub loop-i-init : goal.loop-i-init
loop-i-init g c = read_starts

pub loop-i-preserved : goal.loop-i-preserved
loop-i-preserved g c = read_turns c.loop-i.invariant _ c.loop-i-test.true refl

pub returns : goal.returns
returns g c = read_ends c.loop-i.invariant c.loop-i-test.false
