-- `overlay_sweep::queue::stands_at` meets its contract. Assumes nothing.
use mathlib.Core.Path.{sym, ◌∙◌, ap, subst}
use Prim.Native.Nat.{◌-◌}
use borrow.Author.Tests.{le-ltb}
use native.Mathlib.Omega.{arith}
use borrow.Author.Rules.{rules}
use Rattle.seq.specs.Seq.{not}
use Rattle.paper.specs.Plane.{before}
use Rattle.plane.specs.Bounds.{Near}
use Rattle.plane.specs.Values.{pt_of}
use Rattle.overlay_sweep.specs.Queue.{Stands, not_there, stands_by}
use Rattle.overlay_sweep.proofs.queue.stands_at.Goals as goal
use Rattle.overlay_sweep.proofs.queue.stands_at.Goals.{Start}

pub point_at-requires : goal.point_at-requires
point_at-requires c = omega (arith, c.requires.fact_1.0.long, c.requires.fact_1.1)

pub earlier-requires : goal.earlier-requires
earlier-requires c =
    (c.requires.fact_2, subst Near (sym c.point_at.ensures) (c.requires.fact_1.0.near (c.args.a - 1) (omega (arith, c.requires.fact_1.1))))

pub returns-then-a-gt0 : goal.returns-then-a-gt0
returns-then-a-gt0 c =
    let a = c.args in
    stands_by a.points.now a.a (pt_of a.p) (search rules) _ (ap not (c.earlier.ensures ∙ ap (before (pt_of a.p)) c.point_at.ensures))

pub returns-else-a-gt0 : goal.returns-else-a-gt0
returns-else-a-gt0 c =
    let a = c.args in
    subst (Stands a.points.now a.a (pt_of a.p)) (sym (le-ltb 0 a.a (omega (arith, c.if-a-gt0.false)))) (not_there (λ h. absurd (omega (arith, c.if-a-gt0.false))))
