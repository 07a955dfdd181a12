-- `overlay_cut::collecting::append_new` meets its contract. Assumes nothing.
use Rattle.plane.specs.Values.{pt_of}
use Rattle.plane.proofs.Machine.{pt_back}
use Rattle.overlay_cut.specs.Collecting.{append_full, append_old, append_new}
use native.Mathlib.Omega.{arith}
use borrow.Author.Rules.{rules}
use Rattle.overlay_cut.proofs.collecting.append_new.Goals as goal
use Rattle.overlay_cut.proofs.collecting.append_new.Goals.{After-stands, Else-stands, Start}

pub returns-then-room-n : goal.returns-then-room-n
returns-then-room-n c = let a = c.args in append_full a.room a.points.now a.n (pt_of a.p) (search rules)

pub returns-then-stands : goal.returns-then-stands
returns-then-stands c = let a =
    c.args in append_old a.room a.points.now a.n (pt_of a.p) _ (omega arith) c.stands.ensures c.if-stands.true

pub returns : goal.returns
returns c =
    let a = c.args in
    append_new a.room a.points.now a.n (pt_of a.p) _ _ _ (omega arith) (omega arith) c.stands.ensures c.if-stands.false
    (pt_back a.p.x a.p.y a.p.d c.requires.fact_2) c.store.ensures
