-- `overlay_sweep::queue::place_near` meets its contract: all rows from b on come before p. Assumes nothing.
use mathlib.Core.Path.{sym, ◌∙◌, ap, subst}
use Prim.Native.Nat.{◌-◌}
use native.Mathlib.Omega.{arith}
use Rattle.paper.specs.Plane.{Pt, before}
use Rattle.plane.specs.Bounds.{Near}
use Rattle.plane.specs.Values.{pt_of}
use Rattle.seq.specs.Halves.{halve_starts, halve_up, halve_down}
use Rattle.overlay_sweep.proofs.queue.place_near.Goals as goal
use Rattle.overlay_sweep.proofs.queue.place_near.Goals.{After-place_in, After-place_in-2, Else-earlier, Start, Then-earlier}

pub loop-s-init : goal.loop-s-init
loop-s-init c = (halve_starts _ _, omega arith, omega arith)

pub point_at-requires : goal.point_at-requires
point_at-requires c =
    let l = c.loop-s in
    omega (arith, c.requires.fact_1.0.long, l.invariant.0.within, l.invariant.1)

pub earlier-requires : goal.earlier-requires
earlier-requires c =
    let l = c.loop-s in
    (subst Near (sym c.point_at.ensures) (c.requires.fact_1.0.near (l.b - l.s) (omega (arith, l.invariant.0.within, l.invariant.1))), c.requires.fact_2)

pub overflow_mul-s : goal.overflow_mul-s
overflow_mul-s c =
    let l = c.loop-s in
    omega (arith, c.requires.fact_1.1, l.invariant.0.within, l.invariant.2)

pub loop-s-smaller : goal.loop-s-smaller
loop-s-smaller c =
    let l = c.loop-s in
    omega (arith, l.invariant.1)

pub loop-s-preserved : goal.loop-s-preserved
loop-s-preserved c =
    let l = c.loop-s in
    let t = c.loop-s-test.true in (
      halve_down _ l.invariant.0 (l.b - l.s) (omega (arith, l.invariant.1, t)) (omega arith)
          (sym (c.earlier.ensures ∙ ap (λ (q : Pt). before q (pt_of c.args.p)) c.point_at.ensures) ∙ c.if-earlier.true),
      omega (arith, l.invariant.1),
      omega (arith, c.requires.fact_1.1, l.invariant.0.within, t),
    )

pub overflow_add-b : goal.overflow_add-b
overflow_add-b c =
    let l = c.loop-s in
    omega (arith, c.requires.fact_1.1, l.invariant.0.within)

pub place_in-requires : goal.place_in-requires
place_in-requires c =
    let l = c.loop-s in
    let t = c.loop-s-test.true in record {
      fact_1 = c.requires.fact_1.0;
      fact_2 = c.requires.fact_2;
      fact_3 = c.requires.fact_3;
      fact_4 = halve_up _ l.invariant.0 (l.b - l.s) (omega (arith, l.invariant.1, t)) (omega arith) c.requires.fact_3
          (sym (c.earlier.ensures ∙ ap (λ (q : Pt). before q (pt_of c.args.p)) c.point_at.ensures) ∙ c.if-earlier.false);
    }

pub returns-else-earlier : goal.returns-else-earlier
returns-else-earlier c = c.place_in.ensures

pub place_in-requires-2 : goal.place_in-requires-2
place_in-requires-2 c =
    record { fact_1 = c.requires.fact_1.0; fact_2 = c.requires.fact_2; fact_3 = c.requires.fact_3; fact_4 = c.loop-s.invariant.0 }

pub returns : goal.returns
returns c = c.place_in-2.ensures
