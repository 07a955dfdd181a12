-- `plane::crossings::number_over` meets its contract. Assumes nothing.
use mathlib.Core.Path.{◌≡◌, ◌∙◌}
use lib.IntN.{◌-ℤ◌}
use Rattle.exact.specs.Mach.{tr, tru, plain, atmost}
use Rattle.paper.specs.Plane.{vec, cross}
use Rattle.plane.proofs.Machine.{back, vec_back}
use Rattle.plane.proofs.crossings.number_over.Goals as goal

pub returns : goal.returns
returns c =
    let st = c.before.before.before.before.before.before.before.before.before.before.before in
    let s = st.args.s in
    let t = st.args.t in
    let e = st.args.e in
    let p = st.requires in
    let x : back (back t.x -ℤ back s.x) ≡ t.x -ℤ s.x = plain (search tr depth 20) tt in
    let y : back (back t.y -ℤ back s.y) ≡ t.y -ℤ s.y = plain (search tr depth 20) tt in
    record {
      is = plain (search tr depth 20) tt ∙ c.cross_of.ensures.is ∙ (λ i. cross (vec (x i) (y i)) (vec_back e.u e.v p.2.up_is i));
      bound = atmost (search tru depth 20) tt;
    }
