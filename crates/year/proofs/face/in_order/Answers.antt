-- `year::face::in_order` meets its contract: every row that the loop has passed comes before the next. Assumes nothing.
use mathlib.Core.Path.{sym, ◌∙◌, ap}
use native.Mathlib.Omega.{arith}
use Rattle.seq.specs.PairOrder.{pair_before}
use Rattle.paper.specs.Year.{Pair}
use Rattle.year.specs.TallyRows.{pair_at}
use Rattle.year.specs.Risen.{nexts-start, nexts-turn, next_read, next_ordered}
use Rattle.year.proofs.face.in_order.Goals as goal

pub loop-k-preserved : goal.loop-k-preserved
loop-k-preserved c =
    let t = c.args.rows.now in
    let k = c.loop-k.k in
    let e = ap (λ (p : Pair). pair_before (pair_at t k) p) (sym (next_read t k)) ∙ sym c.earlier.ensures ∙ c.if-not-earlier.false in
    (omega arith, nexts-turn c.loop-k.invariant.1 e)

pub returns : goal.returns
returns c =
    λ e. next_ordered c.loop-k.invariant.1 c.args.n (omega arith)

pub loop-k-init : goal.loop-k-init
loop-k-init c = (omega arith, nexts-start _)
