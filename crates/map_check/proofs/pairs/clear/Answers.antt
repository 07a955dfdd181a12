-- `map_check::pairs::clear` meets its contract. Assumes nothing.
use mathlib.Core.Path.{◌≡◌, sym, ◌∙◌}
use Rattle.seq.specs.Seq.{true, false}
use Rattle.paper.specs.Plane.{Seg, whole, head, the_left_by, clash}
use Rattle.laws_plane.proofs.Boxes.{boxes-apart, boxes-clear}
use Rattle.laws_plane.specs.Clash.{clash-swap}
use Rattle.laws_plane.specs.Cone.{UpV}
use Rattle.laws_plane.specs.Disjoint.{disjoint_clash}
use Rattle.laws_fast.specs.Sides.{the_one_side, one_is, one_side}
use Rattle.plane.specs.Values.{seg_of}
use Rattle.map_check.proofs.pairs.clear.Goals as goal

-- both ends of t lie strictly on one side of s
aside-clear : (s t : Seg) → UpV s.up → UpV t.up → the_one_side (the_left_by s (whole t.foot)) (the_left_by s (whole (head t))) ≡ true → clash s t ≡ false
aside-clear s t us ut e = disjoint_clash s t us ut (one_side s t ut (one_is (the_left_by s (whole t.foot)) (the_left_by s (whole (head t))) e))

pub returns-then-boxes_apart : goal.returns-then-boxes_apart
returns-then-boxes_apart c =
    let s = seg_of c.args.s in
    let t = seg_of c.args.t in
    let p = c.requires in
    λ e. boxes-clear s t p.2 p.3 (boxes-apart s t (sym c.boxes_apart.ensures ∙ c.if-boxes_apart.true))

pub returns-then-lies_aside : goal.returns-then-lies_aside
returns-then-lies_aside c =
    let s = seg_of c.args.s in
    let t = seg_of c.args.t in
    let p = c.requires in
    λ e. aside-clear s t p.2 p.3 (sym c.lies_aside.ensures ∙ c.if-lies_aside.true)

pub returns : goal.returns
returns c =
    let s = seg_of c.args.s in
    let t = seg_of c.args.t in
    let p = c.requires in
    λ e. clash-swap s t p.2 p.3 ∙ aside-clear t s p.3 p.2 (sym c.lies_aside-2.ensures ∙ e)

pub returns-then-join : goal.returns-then-join
returns-then-join c = λ e. c.join.ensures c.if-join.true
