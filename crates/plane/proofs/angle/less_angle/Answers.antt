-- `plane::angle::less_angle` meets its contract: where both rise, or neither does, it is the side. Assumes nothing.
use mathlib.Core.Path.{◌≡◌, refl, sym, ◌∙◌}
use mathlib.Core.Bool.{Bool, true, false, beq, cond, not, ◌&&◌, ◌||◌}
use lib.IntN.{pos}
use lib.Signed.{lt_z}
use Rattle.exact.specs.Mach.{trb, test}
use Rattle.exact.specs.Sign.{sgn, is_plus}
use Rattle.paper.specs.Plane.{Vec, cross, rises, less_angle}
use Rattle.plane.specs.Values.{vec_of}
use Rattle.plane.proofs.Signs.{plus-test}
use Rattle.plane.proofs.Machine.{vec_back}
use Rattle.plane.proofs.angle.less_angle.Goals as goal

alike : (p left : Bool) → left ≡ cond p (not p || left) (not p && left)
alike true left = refl
alike false left = refl

beq-true : (p q : Bool) → beq p q ≡ true → p ≡ q
beq-true true true e = refl
beq-true true false e = sym e
beq-true false true e = e
beq-true false false e = refl

-- the definition, where both rise or neither does
by : (u v : Vec) → rises v ≡ rises u → let left = is_plus (sgn (cross u v)) in left ≡ less_angle u v
by u v e = let left = is_plus (sgn (cross u v)) in alike (rises u) left ∙ (λ i. cond (rises u) (not (sym e i) || left) (not (sym e i) && left))

pub returns-then-rises : goal.returns-then-rises
returns-then-rises c =
    let u = vec_of c.args.u in
    let v = vec_of c.args.v in
    let side = c.cross_of.ensures.is ∙ (λ i. cross (vec_back c.args.u.x c.args.u.y c.requires.0 i) (vec_back c.args.v.x c.args.v.y c.requires.1 i)) in
    test (search trb depth 20) tt ∙ (λ i. lt_z (pos 0) (side i)) ∙ plus-test (cross u v)
    ∙ by u v (sym c.rises-2.ensures ∙ sym (beq-true c.rises.result c.rises-2.result c.if-rises.true) ∙ c.rises.ensures)
