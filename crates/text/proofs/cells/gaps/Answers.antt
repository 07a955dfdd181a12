-- `text::cells::gaps` meets its contract. Assumes nothing.
use Rattle.std.specs.Prelude.{◌+◌}
use native.Mathlib.Omega.{arith}
use mathlib.Core.Path.{◌∙◌, ap}
use Rattle.seq.specs.Seq.{Bool, cond, ℕ}
use Rattle.seq.specs.Loops.Selecting.{count_starts, count_most, count_ends}
use Rattle.paper.specs.Listing.{is_gap}
use Rattle.text.proofs.GapsLaws.{gaps-turn, byte_is, byte_most}
use Rattle.text.proofs.cells.gaps.Goals as goal

pub overflow_add-found : goal.overflow_add-found
overflow_add-found c = omega (arith, c.from-found.ensures, byte_most c.is_gap.result, count_most c.loop-f.invariant.1)

pub loop-f-preserved : goal.loop-f-preserved
loop-f-preserved c =
    let gap = c.is_gap.ensures ∙ (λ i. is_gap (c.cell.ensures i) (c.cell-in-loop-f.ensures i)) in
    (omega arith, gaps-turn c.args.faces.now c.loop-f.invariant.1 c.loop-f.invariant.0 c.loop-f-test.true (ap (λ (k : ℕ). c.loop-f.found + k) (c.from-found.ensures ∙ byte_is c.is_gap.result ∙ ap (λ (b : Bool). cond b 1 0) gap)))

pub loop-f-init : goal.loop-f-init
loop-f-init c = (omega arith, count_starts)

pub returns : goal.returns
returns c = count_ends c.loop-f.invariant.1 (omega arith)
