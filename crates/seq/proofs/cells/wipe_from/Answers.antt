-- `wipe_from` meets its contract: where the loop has reached cell i of those from n on, the cells before it are zero and the others as they were.
-- Assumes nothing.
use Rattle.std.proofs.Common.{◌∙◌, ap, length, take, drop, replicate, ℕ, ◌-◌, arith}
use Rattle.seq.specs.Wiped.{wiped_all}
use Rattle.seq.specs.Loops.Wiping.{wipe_starts, wipe_turns, wipe_ends}
use Rattle.seq.proofs.Parts.{length-part, part_wiped}
use Rattle.seq.proofs.cells.wipe_from.Goals as goal

pub loop-cell-init : goal.loop-cell-init
loop-cell-init g c = wipe_starts (omega arith)

pub loop-cell-preserved : goal.loop-cell-preserved
loop-cell-preserved g c = wipe_turns c.loop-cell.invariant (omega (arith, c.loop-cell-test.true, c.loop-cell.auto.cell-items))

pub returns : goal.returns
returns g c =
    let n = c.args.n in
    let t = c.args.t.now in
    let part = take (length t - n) (drop n t) in
    part_wiped t c.args.zero n c.loop-cell.cell-items c.requires
    (wipe_ends c.loop-cell.invariant (omega (arith, c.loop-cell-test.false, c.loop-cell.auto.cell-items)) ∙ wiped_all c.args.zero part
    ∙ ap (λ (k : ℕ). replicate k c.args.zero) (length-part t n (length t - n) (omega (arith, c.requires))))
