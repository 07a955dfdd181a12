-- `meet::meet` meets its contract. Assumes nothing.
use mathlib.Core.Path.{◌≡◌, ◌∙◌}
use lib.IntN.{ℤ}
use mir.Syntax.{w16}
use mir.Val.{SFits, to_z, of_z}
use mir.ValLaws.{to_z-of_z}
use Rattle.paper.specs.Plane.{Vec, vec}
use Rattle.paper.specs.Meeting.{meet_corners}
use Rattle.meet.proofs.meet.Goals as goal

-- a corner of numbers that are read back
named : {a : Vec} (x y : ℤ) → SFits w16 x → SFits w16 y → a ≡ vec (to_z w16 (of_z w16 x)) (to_z w16 (of_z w16 y)) → a ≡ vec x y
named x y f g e = e ∙ (λ i. vec (to_z-of_z w16 x f i) (to_z-of_z w16 y g i))

pub returns : goal.returns
returns c =
    let st = c.before.before.before.before.before in
    let n = st.args in
    let f = st.ranges in
    let a = named n.ax n.ay f.ax f.ay c.corner.ensures in
    let b = named n.bx n.by f.bx f.by c.corner-2.ensures in
    let e = named n.cx n.cy f.cx f.cy c.corner-3.ensures in
    let d = named n.dx n.dy f.dx f.dy c.corner-4.ensures in
    c.meet_corners.ensures ∙ (λ i. meet_corners (a i) (b i) (e i) (d i))
