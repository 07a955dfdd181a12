-- `mend::steps::without_edge` meets its contract. Assumes nothing.
use mathlib.Core.Path.{sym, ap}
use borrow.Author.Tests.{lt-ltb, le-ltb}
use native.Mathlib.Omega.{arith}
use Rattle.seq.specs.Seq.{Bool, cond, get_or}
use Rattle.mend.proofs.steps.without_edge.Goals as goal

pub returns-then-at_or-v : goal.returns-then-at_or-v
returns-then-at_or-v c =
    ap (λ (b : Bool). cond b 1 4) (sym (lt-ltb (get_or c.args.into.now c.args.v 0) c.args.v (omega (arith, c.at_or.ensures))))

pub returns-else-at_or-v : goal.returns-else-at_or-v
returns-else-at_or-v c =
    ap (λ (b : Bool). cond b 1 4) (sym (le-ltb (get_or c.args.into.now c.args.v 0) c.args.v (omega (arith, c.at_or.ensures))))
