-- `plane::crossings::along` meets its contract: the point lies between the ends of the edge. Assumes nothing.
use mathlib.Core.Path.{◌≡◌, sym, subst}
use lib.IntN.{pos, ◌+ℤ◌, ◌*ℤ◌}
use lib.Signed.{le_z}
use Rattle.exact.specs.Lowest.{pt}
use Rattle.exact.specs.Mach.{tr, fits, plain}
use Rattle.exact.specs.Tests.{and_parts, le_t}
use Rattle.paper.specs.Limits.{reach, denominators}
use Rattle.plane.specs.Values.{seg_of}
use Rattle.plane.specs.Bounds.{Near}
use Rattle.plane.specs.Parameters.{point_along}
use Rattle.plane.proofs.Machine.{back}
use Rattle.plane.proofs.Box.{weighed_below}
use Rattle.plane.proofs.crossings.along.Goals as goal
use Rattle.plane.proofs.crossings.along.Goals.{Start}

-- the point, before the machine has it
near : (c : Start) → Near (point_along (seg_of c.args.s) c.args.n c.args.d)
near c =
    let s = c.args.s in
    let n = c.args.n in
    let d = c.args.d in
    let e = c.requires.0 in
    let o = c.requires.1 in
    let w = and_parts (le_z (pos 0) n) (le_z n d) c.requires.2 in
    record {
      positive = o.positive;
      X-is = weighed_below s.x s.u n d reach denominators o.d_is e.foot_is.x_is e.head_is.x_is (le_t w.0) (le_t w.1);
      Y-is = weighed_below s.y s.v n d reach denominators o.d_is e.foot_is.y_is e.head_is.y_is (le_t w.0) (le_t w.1);
      D-is = o.d_is;
    }

pub returns : goal.returns
returns c =
    let st = c.before.before.before.before.before.before.before.before in
    let s = st.args.s in
    let n = st.args.n in
    let d = st.args.d in
    let p = st.requires in
    let x : back (back (back s.x *ℤ back d) +ℤ back (back n *ℤ back s.u)) ≡ s.x *ℤ d +ℤ n *ℤ s.u = plain (search tr depth 20) tt in
    let y : back (back (back s.y *ℤ back d) +ℤ back (back n *ℤ back s.v)) ≡ s.y *ℤ d +ℤ n *ℤ s.v = plain (search tr depth 20) tt in
    let z : back d ≡ d = plain (search tr depth 20) tt in
    let is : pt (back (back (back s.x *ℤ back d) +ℤ back (back n *ℤ back s.u))) (back (back (back s.y *ℤ back d) +ℤ back (back n *ℤ back s.v))) (back d) ≡ point_along (seg_of s) n d = λ i. pt (x i) (y i) (z i) in
    record { is = is; near = subst Near (sym is) (near st) }

pub overflow_add-result : goal.overflow_add-result
overflow_add-result c = fits (search tr depth 20) tt

pub overflow_mul-result-3 : goal.overflow_mul-result-3
overflow_mul-result-3 c = fits (search tr depth 20) tt

pub overflow_mul-result-4 : goal.overflow_mul-result-4
overflow_mul-result-4 c = fits (search tr depth 20) tt

pub overflow_add-result-2 : goal.overflow_add-result-2
overflow_add-result-2 c = fits (search tr depth 20) tt
