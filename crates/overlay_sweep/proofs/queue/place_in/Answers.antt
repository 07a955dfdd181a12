-- `overlay_sweep::queue::place_in` meets its contract. Assumes nothing.
use Rattle.std.specs.Prelude.{◌+◌, ◌/◌}
use mathlib.Core.Path.{sym, ◌∙◌, ap, subst}
use Prim.Native.Nat.{◌-◌}
use native.Mathlib.Omega.{arith}
use borrow.Author.Rules.{rules}
use Rattle.paper.specs.Plane.{Pt, before}
use Rattle.plane.specs.Bounds.{Near}
use Rattle.plane.specs.Values.{pt_of}
use Rattle.seq.specs.Halves.{halve_up, halve_down}
use Rattle.overlay_sweep.specs.Queue.{place_by_lem}
use Rattle.overlay_sweep.proofs.queue.place_in.Goals as goal
use Rattle.overlay_sweep.proofs.queue.place_in.Goals.{Start}

pub loop-a-init : goal.loop-a-init
loop-a-init c = c.requires.fact_4

pub point_at-requires : goal.point_at-requires
point_at-requires c = omega (arith, c.loop-a.invariant.within, c.requires.fact_1.long)

pub earlier-requires : goal.earlier-requires
earlier-requires c =
    let l = c.loop-a in
    (subst Near (sym c.point_at.ensures) (c.requires.fact_1.near (l.a + (l.b - l.a) / 2) (omega (arith, l.invariant.within))), c.requires.fact_2)

pub loop-a-preserved-then-earlier : goal.loop-a-preserved-then-earlier
loop-a-preserved-then-earlier c =
    halve_down _ c.loop-a.invariant _ (omega arith) (omega arith)
    (sym (c.earlier.ensures ∙ ap (λ (q : Pt). before q (pt_of c.args.p)) c.point_at.ensures) ∙ c.if-earlier.true)

pub loop-a-preserved : goal.loop-a-preserved
loop-a-preserved c =
    halve_up _ c.loop-a.invariant _ (omega arith) (omega arith) c.requires.fact_3
    (sym (c.earlier.ensures ∙ ap (λ (q : Pt). before q (pt_of c.args.p)) c.point_at.ensures) ∙ c.if-earlier.false)

pub returns : goal.returns
returns c = place_by_lem _ _ _ c.requires.fact_3 c.loop-a.invariant (search rules)
