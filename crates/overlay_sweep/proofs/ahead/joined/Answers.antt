-- `overlay_sweep::ahead::joined` meets its contract. Assumes nothing.
use Rattle.std.specs.Prelude.{◌+◌, ◌-◌}
use mathlib.Core.Path.{◌≡◌, sym, ◌∙◌, ap}
use native.Mathlib.Omega.{arith}
use Rattle.seq.specs.Seq.{ℕ, get_or}
use Rattle.plane.specs.Values.{pt_of}
use Rattle.laws_sweep.specs.Sweep.{ahead}
use Rattle.overlay_sweep.specs.Ahead.{strand_at, requeued}
use Rattle.overlay_sweep.specs.Neighbours.{joint_both}
use Rattle.overlay_sweep.proofs.ahead.joined.Goals as goal
use Rattle.overlay_sweep.proofs.ahead.joined.Goals.{Start}

pub tested-requires : goal.tested-requires
tested-requires c = record { fact_1 = omega arith; fact_2 = c.requires.fact_1; fact_3 = c.requires.fact_2 }

pub returns-then-j-cut : goal.returns-then-j-cut
returns-then-j-cut c =
    let a = c.args in
    let e : a.j - 1 + 1 ≡ a.j = omega (arith, c.if-from-j.true) in
    requeued
    (ap (λ (k : ℕ). ahead (pt_of a.p) (strand_at a.cut.sheet.carriers.now a.cut.sheet.starts.now (get_or a.cut.status.now (a.j - 1) 0)) (strand_at a.cut.sheet.carriers.now a.cut.sheet.starts.now (get_or a.cut.status.now k 0))) e
    ∙ sym (joint_both a.cut.sheet.carriers.now a.cut.sheet.starts.now (pt_of a.p) a.cut.status.now a.from a.j a.cut.c c.if-from-j.true c.if-j-cut.true))
    c.tested.ensures
