-- `map_check::edges::clashes` meets its contract. Assumes nothing.
use mathlib.Core.Path.{◌≡◌, sym, ◌∙◌}
use mathlib.Core.Logic.{inl, inr}
use lib.Signed.{lt_z}
use Rattle.exact.specs.Tests.{lt_t}
use Rattle.seq.specs.Seq.{true, false}
use Rattle.paper.specs.Plane.{Seg, head, clash}
use Rattle.paper.specs.Meeting.{meeting, clash_by}
use Rattle.laws_plane.specs.Cone.{UpV}
use Rattle.laws_plane.specs.Boxes.{BoxesApart, boxes_apart, heights-apart}
use Rattle.laws_plane.proofs.Boxes.{boxes-apart, boxes-clear}
use Rattle.laws_meet.specs.Uses.{clash-meeting}
use Rattle.graph.specs.Flat.{carrier_at}
use Rattle.keys.specs.Rows.{carried}
use Rattle.map_check.proofs.edges.clashes.Goals as goal

-- ── one edge wholly below the other ──
other_way : (s t : Seg) → BoxesApart t s → BoxesApart s t
other_way s t (inl a) = inr a
other_way s t (inr a) = inl a

under-clear : (s t : Seg) → UpV s.up → UpV t.up → lt_z (head s).y t.foot.y ≡ true → clash s t ≡ false
under-clear s t us ut e = boxes-clear s t us ut (heights-apart s t us ut (lt_t {a = (head s).y} {b = t.foot.y} e))

over-clear : (s t : Seg) → UpV s.up → UpV t.up → lt_z (head t).y s.foot.y ≡ true → clash s t ≡ false
over-clear s t us ut e = boxes-clear s t us ut (other_way s t (heights-apart t s ut us (lt_t {a = (head t).y} {b = s.foot.y} e)))

-- ── the code ──
pub carrier_at-s-requires : goal.carrier_at-s-requires
carrier_at-s-requires c = carried c.requires.0 c.requires.1

pub carrier_at-t-requires : goal.carrier_at-t-requires
carrier_at-t-requires c = carried c.requires.0 c.requires.2

pub returns-then-lies_under : goal.returns-then-lies_under
returns-then-lies_under c =
    let a = c.args in
    let s = carrier_at a.carriers.now a.k in
    let t = carrier_at a.carriers.now a.j in
    let up = c.requires.3.up in
    let e : lt_z (head s).y t.foot.y ≡ true = (λ i. lt_z (head (sym c.carrier_at-s.ensures.is i)).y (sym c.carrier_at-t.ensures.is i).foot.y) ∙ sym c.lies_under.ensures ∙ c.if-lies_under.true in
    sym (under-clear s t (up a.k c.requires.1) (up a.j c.requires.2) e)

pub returns-then-lies_under-2 : goal.returns-then-lies_under-2
returns-then-lies_under-2 c =
    let a = c.args in
    let s = carrier_at a.carriers.now a.k in
    let t = carrier_at a.carriers.now a.j in
    let up = c.requires.3.up in
    let e : lt_z (head t).y s.foot.y ≡ true = (λ i. lt_z (head (sym c.carrier_at-t.ensures.is i)).y (sym c.carrier_at-s.ensures.is i).foot.y) ∙ sym c.lies_under-2.ensures ∙ c.if-lies_under-2.true in
    sym (over-clear s t (up a.k c.requires.1) (up a.j c.requires.2) e)

pub returns-then-boxes_apart : goal.returns-then-boxes_apart
returns-then-boxes_apart c =
    let a = c.args in
    let s = carrier_at a.carriers.now a.k in
    let t = carrier_at a.carriers.now a.j in
    let up = c.requires.3.up in
    let e : boxes_apart s t ≡ true = (λ i. boxes_apart (sym c.carrier_at-s.ensures.is i) (sym c.carrier_at-t.ensures.is i)) ∙ sym c.boxes_apart.ensures ∙ c.if-boxes_apart.true in
    sym (boxes-clear s t (up a.k c.requires.1) (up a.j c.requires.2) (boxes-apart s t e))

pub returns : goal.returns
returns c =
    let a = c.args in
    let s = c.carrier_at-s.ensures.is in
    let t = c.carrier_at-t.ensures.is in
    let up = c.requires.3.up in
    c.clash_by.ensures ∙ (λ i. clash_by (s i) (t i) (meeting (s i) (t i)))
    ∙ sym (clash-meeting (carrier_at a.carriers.now a.k) (carrier_at a.carriers.now a.j) (up a.k c.requires.1) (up a.j c.requires.2))
