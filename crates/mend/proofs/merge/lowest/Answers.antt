-- `mend::merge::lowest` meets its contract: the search is made only where there is something to find. Assumes nothing.
use mathlib.Core.Path.{sym, ◌∙◌}
use native.Mathlib.Omega.{arith}
use borrow.Author.Tests.{ltb-false}
use Rattle.seq.proofs.Least.{least-le}
use Rattle.seq.specs.Seq.{least}
use Rattle.mend.specs.Keys.{like_in}
use Rattle.mend.proofs.merge.lowest.Goals as goal

pub overflow_cast-result : goal.overflow_cast-result
overflow_cast-result c =
    omega (arith, c.first_like.ensures, least-le (like_in c.args.keys.now c.args.v) c.args.v)

pub returns-else-seen : goal.returns-else-seen
returns-else-seen c =
    let none = ltb-false (least (like_in c.args.keys.now c.args.v) c.args.v) c.args.v (sym c.seen.ensures ∙ c.if-seen.false) in
    omega (arith, none, least-le (like_in c.args.keys.now c.args.v) c.args.v)
