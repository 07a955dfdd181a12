-- `overlay_sweep::ahead::cross_in` meets its contract, whatever the answer of `crossing_over`. Assumes nothing.
use mathlib.Core.Path.{◌≡◌, sym, ◌∙◌, ap, subst}
use mathlib.Core.Option.{Option}
use Rattle.std.specs.declared.option.Option as Std
use Prim.Native.Nat.{◌≤◌}
use lib.IntN.{ℤ, nat_abs}
use Rattle.seq.specs.Seq.{optional}
use Rattle.seq.specs.Kept.{kept}
use Rattle.paper.specs.Limits.{denominators}
use Rattle.paper.specs.Plane.{Pt, before}
use Rattle.plane.specs.Bounds.{NearIf}
use Rattle.plane.specs.Values.{pt_of, seg_of, cross_of}
use Rattle.exact.specs.declared.terms.Point.{Point}
use Rattle.plane.proofs.Machine.{number_back}
use Rattle.overlay_sweep.specs.Ahead.{queued_none, requeued, cross_ahead}
use Rattle.overlay_sweep.proofs.ahead.cross_in.Goals as goal
use Rattle.overlay_sweep.proofs.ahead.cross_in.Goals.{After-ahead_in, After-crossing_over, After-over, Start}

pub crossing_over-requires : goal.crossing_over-requires
crossing_over-requires c =
    let m = c.over in
    let b = number_back m.result m.ensures.bound in
    (c.requires.fact_1.0, c.requires.fact_1.1, b ∙ m.ensures.both.0, subst (λ (z : ℤ). nat_abs z ≤ denominators) (sym b) m.ensures.bound)

-- what the call of `crossing_over` told, of each way
module _ (c : After-crossing_over) where
  told : (r : Std.Option Point) → c.crossing_over.result ≡ r → kept (before (pt_of c.args.p)) (optional (cross_of r)) ≡ cross_ahead (pt_of c.args.p) (seg_of c.args.s) (seg_of c.args.t)
  told r e = ap (λ (o : Option Pt). kept (before (pt_of c.args.p)) (optional o)) (sym (ap cross_of e) ∙ c.crossing_over.ensures.is)

  near : (r : Std.Option Point) → c.crossing_over.result ≡ r → NearIf (cross_of r)
  near r e = subst (λ (x : Std.Option Point). NearIf (cross_of x)) e c.crossing_over.ensures.near

pub ahead_in-requires : goal.ahead_in-requires
ahead_in-requires c =
    record { fact_1 = (c.requires.fact_2, near (goal.at.ahead_in-requires c).After-crossing_over _ c.in-Some.is); fact_2 = c.requires.fact_3 }

pub returns-in-None : goal.returns-in-None
returns-in-None c =
    requeued (told (goal.at.returns-in-None c).After-crossing_over _ c.in-None.is) (queued_none c.args.points.now c.args.n c.requires.fact_3)

pub returns-in-Some : goal.returns-in-Some
returns-in-Some c =
    requeued (told (goal.at.returns-in-Some c).After-crossing_over _ c.in-Some.is) c.ahead_in.ensures
