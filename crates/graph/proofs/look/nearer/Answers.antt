-- `graph::look::nearer` meets its contract, whatever the answer of `products`. Assumes nothing.
use mathlib.Core.Path.{◌≡◌, ◌∙◌, ap}
use lib.IntN.{◌-ℤ◌, ◌*ℤ◌}
use borrow.Author.Rules.{rules}
use Rattle.exact.specs.Compare.{sign_of, cmp_0, gt_plus, then_with_pick}
use Rattle.exact.specs.Mach.{tr, plain}
use Rattle.exact.specs.Sign.{sgn, pick, is_plus}
use Rattle.paper.specs.Plane.{vec, cross, the_left_by}
use Rattle.plane.proofs.Machine.{back, vec_back}
use Rattle.plane.specs.Values.{seg_of, pt_of}
use Rattle.graph.proofs.look.nearer.Goals as goal
use Rattle.graph.proofs.look.nearer.Goals.{After-products}

-- what `products` told
told : (c : After-products) → let a = c.args in
    sign_of c.products.result ≡ sgn (the_left_by (seg_of a.s) (pt_of a.p) *ℤ a.t.v -ℤ the_left_by (seg_of a.t) (pt_of a.p) *ℤ a.s.v)
told c =
    let a = c.args in
    let l = c.left_by in
    let m = c.left_by-2 in
    let near = l.ensures.bound in
    let far = m.ensures.bound in
    let sv = c.requires.0.up_is.y_is in
    let tv = c.requires.1.up_is.y_is in
    let y : back l.result *ℤ back a.t.v -ℤ back m.result *ℤ back a.s.v ≡ l.result *ℤ a.t.v -ℤ m.result *ℤ a.s.v = plain (search tr depth 20) tt in
    c.products.ensures ∙ ap sgn (y ∙ (λ j. l.ensures.is j *ℤ a.t.v -ℤ m.ensures.is j *ℤ a.s.v))

pub returns : goal.returns
returns c =
    let a = c.args in
    let turn : cross (vec (back a.s.u) (back a.s.v)) (vec (back a.t.u) (back a.t.v)) ≡ cross (seg_of a.s).up (seg_of a.t).up =
    λ i. cross (vec_back a.s.u a.s.v c.requires.0.up_is i) (vec_back a.t.u a.t.v c.requires.1.up_is i) in
    c.is_gt.ensures ∙ gt_plus c.then_with.result
    ∙ ap is_plus (then_with_pick c.products.result c.then_with.result (sgn (cross (vec (back a.s.u) (back a.s.v)) (vec (back a.t.u) (back a.t.v)))) c.then_with.ensures (λ e. search (cmp_0, rules))
    ∙ (λ i. pick (told (goal.at.returns c).After-products i) (sgn (turn i))))
