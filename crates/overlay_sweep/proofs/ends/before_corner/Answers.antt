-- `overlay_sweep::ends::before_corner` meets its contract. Assumes nothing.
use mathlib.Core.Path.{◌≡◌, ◌∙◌}
use lib.IntN.{◌*ℤ◌}
use Rattle.exact.specs.Mach.{tr, fits, plain}
use Rattle.paper.specs.Plane.{vec}
use Rattle.plane.specs.Values.{pt_of}
use Rattle.plane.proofs.Machine.{back}
use Rattle.overlay_sweep.specs.First.{first, of_point}
use Rattle.overlay_sweep.proofs.ends.before_corner.Goals as goal
use Rattle.overlay_sweep.proofs.ends.before_corner.Goals.{Start}

pub returns : goal.returns
returns c =
    let a = c.args in
    let x : back (back a.x *ℤ back a.p.d) ≡ a.x *ℤ a.p.d = plain (search tr depth 20) tt in
    let y : back (back a.y *ℤ back a.p.d) ≡ a.y *ℤ a.p.d = plain (search tr depth 20) tt in
    let u : back a.p.x ≡ a.p.x = plain (search tr depth 20) tt in
    let v : back a.p.y ≡ a.p.y = plain (search tr depth 20) tt in
    c.first_of.ensures ∙ (λ i. first (u i) (v i) (x i) (y i)) ∙ of_point (vec a.x a.y) (pt_of a.p)

pub overflow_mul-x : goal.overflow_mul-x
overflow_mul-x c = fits (search tr depth 20) tt

pub overflow_mul-y : goal.overflow_mul-y
overflow_mul-y c = fits (search tr depth 20) tt
