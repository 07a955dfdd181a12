-- `graph::look::westward` meets its contract. Assumes nothing.
use mathlib.Core.Path.{◌≡◌, ◌∙◌, ap}
use lib.IntN.{pos, neg_ℤ, ◌-ℤ◌}
use Rattle.exact.specs.Mach.{tr, plain}
use Rattle.paper.specs.Plane.{vec, cross, rises}
use Rattle.plane.proofs.Machine.{back, vec_back}
use Rattle.plane.specs.Values.{vec_of, seg_of}
use Rattle.graph.proofs.Rows.{minus}
use Rattle.graph.proofs.look.westward.Goals as goal

pub returns : goal.returns
returns c =
    let a = c.args in
    let q = c.cross_of-turn in
    let l = c.left_by-left in
    let s = a.s in
    let x : back q.result ≡ q.result = plain (search tr depth 20) tt in
    let y : back (pos 0 -ℤ back l.result) ≡ pos 0 -ℤ l.result = plain (search tr depth 20) tt in
    let pre = c.requires in
    let turn : cross (vec (back a.d.x) (back a.d.y)) (vec (back s.u) (back s.v)) ≡ cross (vec_of a.d) (seg_of s).up =
    λ i. cross (vec_back a.d.x a.d.y pre.2 i) (vec_back s.u s.v pre.0.up_is i) in
    c.rises.ensures ∙ (λ i. rises (vec ((x ∙ q.ensures.is ∙ turn) i) ((y ∙ minus l.result ∙ ap neg_ℤ l.ensures.is) i)))
