-- `mend::packed::pair_key` meets its contract. Assumes nothing.
use Rattle.std.specs.Prelude.{◌+◌, ◌*◌}
use mathlib.Core.Path.{sym, ap}
use borrow.Author.Tests.{le-leb, lt-leb}
use native.Mathlib.Omega.{arith}
use Rattle.seq.specs.Seq.{Bool, cond}
use Rattle.mend.proofs.packed.pair_key.Goals as goal

pub returns-then-a-b : goal.returns-then-a-b
returns-then-a-b c =
    let a = c.args in
    ap (λ (t : Bool). cond t (65536 * a.a + a.b) (65536 * a.b + a.a)) (sym (le-leb a.a a.b (omega arith)))

pub returns-else-a-b : goal.returns-else-a-b
returns-else-a-b c =
    let a = c.args in
    ap (λ (t : Bool). cond t (65536 * a.a + a.b) (65536 * a.b + a.a)) (sym (lt-leb a.a a.b (omega arith)))
