-- `overlay_sweep::turn::exchange` meets its contract. Assumes nothing.
use mathlib.Core.Path.{refl}
use native.Mathlib.Omega.{arith}
use Rattle.plane.specs.Values.{pt_of}
use Rattle.graph.specs.Flat.{Numbers}
use Rattle.overlay_sweep.specs.Turned.{numbers-fewer, cut_at, turn_at}
use Rattle.overlay_sweep.proofs.turn.exchange.Goals as goal
use Rattle.overlay_sweep.proofs.turn.exchange.Goals.{After-going_on-g, After-joined-east, After-splice-c, After-starting, Start}

pub going_on-g-requires : goal.going_on-g-requires
going_on-g-requires c =
    let r = c.requires.fact_1 in
    let m = c.requires.fact_4 in
    let b = m.through.scan in
    record {
      fact_1 = numbers-fewer r.named b.within;
      fact_2 = b.low;
      fact_3 = c.requires.fact_3;
      fact_4 = omega (arith, b.within, r.fewer, r.started, r.fan_room_lem);
    }

pub starting-requires : goal.starting-requires
starting-requires c =
    let r = c.requires.fact_1 in
    let m = c.requires.fact_4 in
    let b = m.through.scan.within in
    let g = c.going_on-g.ensures in
    let s = m.starts.scan in
    record {
      fact_1 = r.waits;
      fact_2 = (omega (arith, g.1, b, r.fewer), s.low, s.within);
      fact_3 = g.0.named;
      fact_4 = omega (arith, c.going_on-g.auto, g.1, b, r.fewer, r.started, r.fan_room_lem);
    }

pub overflow_sub-m : goal.overflow_sub-m
overflow_sub-m c =
    omega (arith, c.requires.fact_4.starts.scan.low)

pub overflow_add-m : goal.overflow_add-m
overflow_add-m c =
    let m = c.requires.fact_4 in
    omega (arith, m.starts.scan.low, c.going_on-g.ensures.1, m.through.scan.within, c.requires.fact_1.fewer)

pub splice-c-requires : goal.splice-c-requires
splice-c-requires c =
    let r = c.requires.fact_1 in
    let m = c.requires.fact_4 in
    let b = m.through.scan in
    let g = c.going_on-g.ensures.1 in
    let s = m.starts.scan in
    record {
      fact_1 = b.low;
      fact_2 = b.within;
      fact_3 = r.named.long;
      fact_4 = omega (arith, b.low, b.within, g, s.low, s.within, r.fewer, r.room);
      fact_5 = omega (arith, c.going_on-g.auto, c.starting.auto, b.within, g, s.low, s.within, r.fewer, r.fan_room_lem);
    }

-- after the splice
module _ (c : After-splice-c) where
  numbers : Numbers c.splice-c.new.t c.splice-c.result c.args.sheet.e
  numbers =
      let a = c.args in
      let m = c.requires.fact_4 in
      let g = c.going_on-g in
      let x = c.splice-c in
      cut_at a.sheet.carriers.now a.sheet.starts.now (pt_of a.p) a.status.now a.line.cut a.at.from a.at.to m.west m.through
      a.waits.now a.sheet.e a.line.started a.at.started m.starts _ _ g.result g.ensures.0 c.starting.ensures x.new.t x.ensures.is c.requires.fact_1 g.ensures.1 x.auto.t x.result x.ensures.count

pub overflow_add-a : goal.overflow_add-a
overflow_add-a c =
    let m = c.requires.fact_4 in
    let b = m.through.scan in
    omega (arith, b.low, b.within, c.going_on-g.ensures.1, m.starts.scan.low, c.requires.fact_1.fewer)

pub invariant_of-cut : goal.invariant_of-cut
invariant_of-cut c =
    record { named = numbers (goal.at.invariant_of-cut c).After-splice-c }

pub joined-east-requires : goal.joined-east-requires
joined-east-requires c =
    record { fact_1 = c.requires.fact_3; fact_2 = c.requires.fact_2 }

pub joined-known-requires : goal.joined-known-requires
joined-known-requires c =
    record { fact_1 = c.requires.fact_3; fact_2 = c.joined-east.ensures.rows }

pub shape_of-status : goal.shape_of-status
shape_of-status c =
    c.splice-c.auto.t

pub returns : goal.returns
returns c =
    let a = c.args in
    let m = c.requires.fact_4 in
    let g = c.going_on-g in
    let x = c.splice-c in
    record {
      turned = turn_at a.sheet.carriers.now a.sheet.starts.now (pt_of a.p) a.status.now a.line.cut a.at.from a.at.to m.west m.through
          a.waits.now a.sheet.e a.line.started a.at.started m.starts _ _ g.result g.ensures.0 c.starting.ensures x.new.t x.ensures.is c.requires.fact_1 g.ensures.1 x.auto.t x.result x.ensures.count
          c.joined-east.ensures c.joined-known.ensures;
      same = (refl, refl);
    }
