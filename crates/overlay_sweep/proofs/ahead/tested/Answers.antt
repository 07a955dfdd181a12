-- `overlay_sweep::ahead::tested` meets its contract. Assumes nothing.
use Rattle.std.specs.Prelude.{◌+◌}
use mathlib.Core.Path.{sym, ◌∙◌}
use native.Mathlib.Omega.{arith}
use Rattle.seq.specs.Seq.{get_or}
use Rattle.plane.specs.Values.{pt_of}
use Rattle.keys.specs.Rows.{carried}
use Rattle.overlay_sweep.specs.Ahead.{strand_at, queued_none, requeued, cross_ahead, ahead_same, ahead_other}
use Rattle.overlay_sweep.proofs.ahead.tested.Goals as goal
use Rattle.overlay_sweep.proofs.ahead.tested.Goals.{After-carrier_at, After-carrier_at-2, After-cross_in, After-one_map, Else-one_map, Start}

pub bounds-cut-j : goal.bounds-cut-j
bounds-cut-j c = let p = c.requires in omega (arith, c.args.cut.named.long, p.fact_1)

pub bounds-cut-j-2 : goal.bounds-cut-j-2
bounds-cut-j-2 c = let p = c.requires in omega (arith, c.args.cut.named.long, p.fact_1)

pub returns-then-one_map : goal.returns-then-one_map
returns-then-one_map c =
    let a = c.args in
    requeued
    (sym (ahead_same (pt_of a.p) (strand_at a.cut.sheet.carriers.now a.cut.sheet.starts.now (get_or a.cut.status.now a.j 0)) (strand_at a.cut.sheet.carriers.now a.cut.sheet.starts.now (get_or a.cut.status.now (a.j + 1) 0)) (sym c.one_map.ensures ∙ c.if-one_map.true)))
    (queued_none a.points.now a.n c.requires.fact_3)

pub carrier_at-requires : goal.carrier_at-requires
carrier_at-requires c = carried c.args.cut.sheet.carried (c.args.cut.named.named c.args.j (omega (arith, c.requires.fact_1)))

pub carrier_at-requires-2 : goal.carrier_at-requires-2
carrier_at-requires-2 c = carried c.args.cut.sheet.carried (c.args.cut.named.named (c.args.j + 1) c.requires.fact_1)

pub cross_in-requires : goal.cross_in-requires
cross_in-requires c =
    record { fact_1 = (c.carrier_at.ensures.near, c.carrier_at-2.ensures.near); fact_2 = c.requires.fact_2; fact_3 = c.requires.fact_3 }

pub returns : goal.returns
returns c =
    let a = c.args in
    let other = ahead_other (pt_of a.p) (strand_at a.cut.sheet.carriers.now a.cut.sheet.starts.now (get_or a.cut.status.now a.j 0)) (strand_at a.cut.sheet.carriers.now a.cut.sheet.starts.now (get_or a.cut.status.now (a.j + 1) 0)) (sym c.one_map.ensures ∙ c.if-one_map.false) in
    requeued ((λ i. cross_ahead (pt_of a.p) (c.carrier_at.ensures.is i) (c.carrier_at-2.ensures.is i)) ∙ sym other) c.cross_in.ensures
