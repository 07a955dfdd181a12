-- `ovfile::bytes::number_by` meets its contract: past the end every byte is 0, and before it the places can be counted. Assumes nothing.
use mathlib.Core.Path.{sym}
use native.Mathlib.Omega.{arith}
use Rattle.ovfile.proofs.BytesLaws.{number_past, read_starts, read_turns, read_ends, read_small}
use Rattle.ovfile.proofs.bytes.number_by.Goals as goal

pub returns-then-file-at : goal.returns-then-file-at
returns-then-file-at c = let a = c.args in sym (number_past a.width a.file.now a.at c.if-file-at.true)

pub overflow_add-at : goal.overflow_add-at
overflow_add-at c = omega (arith, c.loop-i.invariant.within)

pub overflow_mul-n : goal.overflow_mul-n
overflow_mul-n c =
    omega (arith, read_small c.loop-i.invariant (λ i. (c.type_inv.file i).fits) (omega arith) c.loop-i-test.true)

pub overflow_add-n : goal.overflow_add-n
overflow_add-n c =
    omega (arith, read_small c.loop-i.invariant (λ i. (c.type_inv.file i).fits) (omega arith) c.loop-i-test.true)

pub loop-i-init : goal.loop-i-init
loop-i-init c = read_starts

pub loop-i-preserved : goal.loop-i-preserved
loop-i-preserved c = read_turns c.loop-i.invariant c.byte_at.result c.loop-i-test.true c.byte_at.ensures

pub returns : goal.returns
returns c = read_ends c.loop-i.invariant c.loop-i-test.false
