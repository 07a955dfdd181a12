-- `map_check::few::clear_after` meets its contract: edge i clashes with none that comes after it and below the counter. Assumes nothing.
use mathlib.Core.Path.{◌≡◌, sym, ◌∙◌, subst}
use Prim.Native.Nat.{◌<◌}
use borrow.Author.Count.{below_more}
use native.Mathlib.Omega.{arith}
use Rattle.exact.specs.Tests.{never}
use Rattle.seq.specs.Seq.{false}
use Rattle.seq.specs.Tests.{was-true}
use Rattle.paper.specs.Plane.{Seg, clash}
use Rattle.laws_plane.specs.Cone.{UpV}
use Rattle.graph.specs.Flat.{carrier_at}
use Rattle.keys.specs.Rows.{carried}
use Rattle.map_check.proofs.few.clear_after.Goals as goal

pub carrier_at-s-requires : goal.carrier_at-s-requires
carrier_at-s-requires c = carried c.requires.0 c.requires.2

pub carrier_at-t-requires : goal.carrier_at-t-requires
carrier_at-t-requires c =
    carried c.requires.0 c.loop-j-test.true

pub clear-requires : goal.clear-requires
clear-requires c =
    let p = c.requires in
    let up = p.1.up in (
      c.carrier_at-s.ensures.near,
      c.carrier_at-t.ensures.near,
      subst (λ (s : Seg). UpV s.up) (sym c.carrier_at-s.ensures.is) (up c.args.i p.2),
      subst (λ (s : Seg). UpV s.up) (sym c.carrier_at-t.ensures.is) (up c.loop-j.j c.loop-j-test.true),
    )

pub loop-j-preserved : goal.loop-j-preserved
loop-j-preserved c =
    let a = c.args in
    let seg = carrier_at a.carriers.now in
    λ k l h.
    below_more (λ k. a.i < k → clash (seg a.i) (seg k) ≡ false) _ (λ k h l. c.loop-j.invariant k l h)
    (λ l. (λ i. clash (sym c.carrier_at-s.ensures.is i) (sym c.carrier_at-t.ensures.is i)) ∙ c.clear.ensures (was-true _ c.if-not-clear.false-raw)) k h l

pub returns : goal.returns
returns c = λ r k l h. c.loop-j.invariant k l (omega (arith, c.loop-j-test.false, h))

pub loop-j-init : goal.loop-j-init
loop-j-init c = λ k l h. absurd (omega arith)

pub returns-then-not-clear : goal.returns-then-not-clear
returns-then-not-clear c = λ e. never e
