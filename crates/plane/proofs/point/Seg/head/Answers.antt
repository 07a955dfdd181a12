-- `plane::point::Seg::head` meets its contract. Assumes nothing.
use mathlib.Core.Path.{◌≡◌, sym, subst}
use lib.IntN.{◌+ℤ◌}
use Rattle.exact.specs.Mach.{tr, plain}
use Rattle.paper.specs.Plane.{vec}
use Rattle.plane.specs.Bounds.{Corner}
use Rattle.plane.proofs.Machine.{back}
use Rattle.plane.proofs.point.Seg.head.Goals as goal

pub returns : goal.returns
returns c =
    let s = c.args.self in
    let x : back (back s.x +ℤ back s.u) ≡ s.x +ℤ s.u = plain (search tr depth 20) tt in
    let y : back (back s.y +ℤ back s.v) ≡ s.y +ℤ s.v = plain (search tr depth 20) tt in
    record { is = λ i. vec (x i) (y i); near = subst Corner (λ i. vec (sym x i) (sym y i)) c.requires.head_is }
