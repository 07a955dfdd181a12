-- `looks::reading::closer` meets its contract: both products fit 64 bits. Assumes nothing.
use mathlib.Core.Path.{◌≡◌, ◌∙◌}
use lib.IntN.{◌-ℤ◌, ◌*ℤ◌}
use Rattle.exact.specs.Mach.{tr, fits, plain}
use Rattle.paper.specs.Plane.{vec, cross, rises}
use Rattle.plane.proofs.Machine.{back, vec_back}
use Rattle.plane.specs.Values.{seg_of}
use Rattle.looks.proofs.reading.closer.Goals as goal

pub overflow_sub-mine : goal.overflow_sub-mine
overflow_sub-mine c =
    let near = c.left_at-mine.ensures.bound in
    let far = c.left_at-its.ensures.bound in
    let sv = c.requires.0.up_is.y_is in
    let tv = c.requires.1.up_is.y_is in
    fits (search tr depth 20) tt

pub returns : goal.returns
returns c =
    let s = c.args.s in
    let t = c.args.t in
    let q = c.cross_of-turn in
    let m = c.left_at-mine in
    let o = c.left_at-its in
    let near = m.ensures.bound in
    let far = o.ensures.bound in
    let sv = c.requires.0.up_is.y_is in
    let tv = c.requires.1.up_is.y_is in
    let turned = q.ensures.bound in
    let x : back q.result ≡ q.result = plain (search tr depth 20) tt in
    let y : back (back (back m.result *ℤ back t.v) -ℤ back (back o.result *ℤ back s.v)) ≡ m.result *ℤ t.v -ℤ o.result *ℤ s.v = plain (search tr depth 20) tt in
    let turn : cross (vec (back s.u) (back s.v)) (vec (back t.u) (back t.v)) ≡ cross (seg_of s).up (seg_of t).up =
    λ i. cross (vec_back s.u s.v c.requires.0.up_is i) (vec_back t.u t.v c.requires.1.up_is i) in
    c.rises.ensures ∙ (λ i. rises (vec ((x ∙ q.ensures.is ∙ turn) i) ((y ∙ (λ j. m.ensures.is j *ℤ t.v -ℤ o.ensures.is j *ℤ s.v)) i)))

pub overflow_mul-mine : goal.overflow_mul-mine
overflow_mul-mine c = fits (search tr depth 20) tt

pub overflow_mul-its : goal.overflow_mul-its
overflow_mul-its c = fits (search tr depth 20) tt
