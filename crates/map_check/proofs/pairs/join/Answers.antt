-- `map_check::pairs::join` meets its contract. Assumes nothing.
use mathlib.Core.Path.{◌≡◌, sym, ◌∙◌, ap}
use Rattle.seq.specs.Seq.{false}
use Rattle.paper.specs.Plane.{Seg, Vec, whole, head, before, clash}
use Rattle.laws_plane.specs.Clash.{clash-swap}
use Rattle.laws_plane.specs.Cone.{UpV}
use Rattle.laws_plane.specs.Points.{before_irr}
use Rattle.laws_fast.specs.Sides.{end_to_end}
use Rattle.plane.specs.Values.{seg_of}
use Rattle.map_check.proofs.pairs.join.Goals as goal

-- t ends where s starts
meets : (s t : Seg) → UpV s.up → UpV t.up → head t ≡ s.foot → clash s t ≡ false
meets s t us ut e = end_to_end s t us ut (ap (λ (v : Vec). before (whole s.foot) (whole v)) e ∙ before_irr (whole s.foot))

pub returns-then-one_corner : goal.returns-then-one_corner
returns-then-one_corner c =
    let s = seg_of c.args.s in
    let t = seg_of c.args.t in
    let p = c.requires in
    λ e. clash-swap s t p.2 p.3 ∙ meets t s p.3 p.2 (sym c.head.ensures.is ∙ c.one_corner.ensures c.if-one_corner.true ∙ c.foot.ensures.is)

pub returns-then-one_corner-2 : goal.returns-then-one_corner-2
returns-then-one_corner-2 c =
    let s = seg_of c.args.s in
    let t = seg_of c.args.t in
    let p = c.requires in
    λ e. meets s t p.2 p.3 (sym c.head-2.ensures.is ∙ c.one_corner-2.ensures c.if-one_corner-2.true ∙ c.foot-2.ensures.is)

pub returns : goal.returns
returns c = c.fork.ensures
