-- `overlay_cut::cutting::cut_edge` meets its contract: what is left to put in, put into the table, gives the whole. Assumes nothing.
use mathlib.Core.Path.{◌≡◌, refl, sym, ◌∙◌, ap, subst}
use Prim.Native.Nat.{◌-◌}
use Rattle.seq.proofs.Least.{least-le}
use Rattle.seq.specs.Halves.{reached}
use Rattle.paper.specs.Plane.{whole, before, on_seg}
use Rattle.plane.specs.Values.{vec_of, seg_of}
use Rattle.plane.specs.Bounds.{Near}
use Rattle.graph.specs.Flat.{the_point_at}
use Rattle.laws_cut.specs.Between.{the_on_line}
use Rattle.overlay_cut.specs.Cutting.{link_starts, link-skips, link_turns, link_ends}
use Rattle.overlay_cut.specs.Between.{spans, span-upto, span_none, span-line}
use borrow.Author.Rules.{rules}
use native.Mathlib.Omega.{arith}
use Rattle.overlay_cut.proofs.cutting.cut_edge.Goals as goal
use Rattle.overlay_cut.proofs.cutting.cut_edge.Goals.{After-foot, After-head, After-link-total, After-on_line, After-place-first, After-place-top, At-loop-v, Start, Then-on_line}

pub overflow_step-v : goal.overflow_step-v
overflow_step-v c =
    let a = c.args in
    omega (arith, c.place-top.ensures, least-le (reached before (the_point_at a.chart.points.now) (whole (vec_of c.head.result))) a.chart.n, c.args.chart.few)

pub loop-v-init : goal.loop-v-init
loop-v-init c =
    let a = c.args in
    let R = c.args.chart.ordered in
    let S = spans a.chart.points.now a.chart.n R (seg_of a.s) c.requires.fact_2.1 c.place-first.result c.place-top.result _ _ c.place-first.ensures c.foot.ensures.is c.place-top.ensures c.head.ensures.is in
    (refl, refl, search rules, S, c.requires.fact_1, link_starts _ _ _ _ _ _ _ (omega (arith, S.high)) (span-upto a.chart.points.now a.chart.n R S))

pub point_at-requires : goal.point_at-requires
point_at-requires c =
    omega (arith, c.loop-v.invariant.5.low, c.args.chart.near.long)

pub on_line-requires : goal.on_line-requires
on_line-requires c =
    (c.requires.fact_2.0, subst Near (sym c.point_at.ensures) (c.args.chart.near.near (c.loop-v.v - 1) (omega (arith, c.loop-v.invariant.5.low))))

pub link-total-requires : goal.link-total-requires
link-total-requires c =
    let l = c.loop-v in
    record { fact_1 = l.invariant.4; fact_2 = omega (arith, l.invariant.5.low); fact_3 = c.args.chart.few; fact_4 = c.requires.fact_3; fact_5 = c.requires.fact_4 }

-- what the test of vertex v - 1 says
tested : (c : After-on_line) →
    on_seg (seg_of c.args.s) (the_point_at c.args.chart.points.now (c.loop-v.v - 1)) ≡ c.on_line.result
tested c =
    let l = c.loop-v in
    let a = c.args in
    span-line a.chart.points.now a.chart.n c.args.chart.ordered l.invariant.3 (l.v - 1) (omega arith) (omega (arith, l.invariant.2))
    ∙ ap (the_on_line (seg_of a.s)) (sym c.point_at.ensures) ∙ sym c.on_line.ensures

pub loop-v-preserved-then-on_line : goal.loop-v-preserved-then-on_line
loop-v-preserved-then-on_line c =
    let l = c.loop-v in
    let r = c.link-total in (
      r.auto.rows ∙ l.invariant.0,
      r.auto.links ∙ l.invariant.1,
      omega (arith, l.invariant.2),
      l.invariant.3,
      r.ensures.0,
      link_turns _ _ _ _ l.invariant.5 r.new.rows r.result (search rules) (tested (goal.at.loop-v-preserved-then-on_line c).After-on_line ∙ c.if-on_line.true) r.ensures.1,
    )

pub loop-v-preserved : goal.loop-v-preserved
loop-v-preserved c =
    let l = c.loop-v in
    (l.invariant.0, l.invariant.1, omega (arith, l.invariant.2), l.invariant.3, l.invariant.4, link-skips _ _ _ _ l.invariant.5 (search rules) (tested (goal.at.loop-v-preserved c).After-on_line ∙ c.if-on_line.false))

pub returns : goal.returns
returns c =
    let l = c.loop-v in
    (l.invariant.4, link_ends _ _ _ _ l.invariant.5 (span_none c.args.chart.points.now c.args.chart.n c.args.chart.ordered l.invariant.3 l.v (search rules)))
