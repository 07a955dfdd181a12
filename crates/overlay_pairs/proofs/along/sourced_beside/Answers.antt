-- `overlay_pairs::along::sourced_beside` meets its contract. Assumes nothing.
use mathlib.Core.Path.{sym, subst}
use mathlib.Core.Logic.{inl}
use native.Mathlib.Omega.{arith}
use Rattle.seq.specs.Seq.{ℕ}
use Rattle.overlay_pairs.specs.Labels.{OnWalk, Walked, beside-twin}
use Rattle.overlay_pairs.proofs.along.sourced_beside.Goals as goal

pub sourced_along-x-requires : goal.sourced_along-x-requires
sourced_along-x-requires c =
    record { fact_1 = c.requires.fact_1; fact_2 = c.requires.fact_3.0 }

pub source_in-requires : goal.source_in-requires
source_in-requires c =
    record { fact_1 = c.requires.fact_3.0.row c.sourced_along-x.result c.sourced_along-x.ensures.on_walk; fact_2 = c.requires.fact_1 }

pub returns-then-source_in-gt0 : goal.returns-then-source_in-gt0
returns-then-source_in-gt0 c =
    inl c.sourced_along-x.ensures.on_walk

pub twin-requires : goal.twin-requires
twin-requires c =
    c.requires.fact_2

pub sourced_along-requires : goal.sourced_along-requires
sourced_along-requires c =
    record { fact_1 = c.requires.fact_1; fact_2 = subst (Walked c.args.next.now c.args.pieces.now) (sym c.twin.ensures) c.requires.fact_3.1 }

pub returns : goal.returns
returns c =
    let y = c.sourced_along.result in
    beside-twin c.args.pieces.now c.args.next.now c.args.m c.args.h c.sourced_along-x.result y c.sourced_along-x.ensures (omega (arith, c.if-source_in-gt0.false, c.source_in.ensures))
    (subst (λ (z : ℕ). OnWalk c.args.next.now z y) c.twin.ensures c.sourced_along.ensures.on_walk)
