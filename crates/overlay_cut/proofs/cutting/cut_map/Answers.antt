-- `overlay_cut::cutting::cut_map` meets its contract. Assumes nothing.
use mathlib.Core.Path.{refl, sym, ◌∙◌, ap, subst}
use Prim.Native.Nat.{◌+◌, ◌-◌}
use Rattle.paper.specs.Plane.{Seg}
use Rattle.overlay_cut.specs.Links.{pieced}
use Rattle.overlay_cut.specs.Cutting.{puts, cut_starts, cut_turns, cut_ends}
use Rattle.overlay_cut.specs.Between.{EndsIn}
use Rattle.overlay_cut.specs.Cuts.{cut_edge, cut_row}
use borrow.Author.Rules.{rules}
use native.Mathlib.Omega.{arith}
use Rattle.overlay_cut.proofs.cutting.cut_map.Goals as goal
use Rattle.overlay_cut.proofs.cutting.cut_map.Goals.{After-carrier_at-s, After-cut_edge-total, At-loop-k, Start}

pub loop-k-init : goal.loop-k-init
loop-k-init c =
    (search rules, refl, refl, c.requires.fact_1, cut_starts _ _ _ _ _)

pub carrier_at-s-requires : goal.carrier_at-s-requires
carrier_at-s-requires c =
    record { row = omega (arith, c.requires.fact_2.0.long); near = c.requires.fact_2.0.near (c.args.from + (c.loop-k.k - 1)) (omega arith) }

pub cut_edge-total-requires : goal.cut_edge-total-requires
cut_edge-total-requires c =
    record {
      fact_1 = c.loop-k.invariant.3;
      fact_2 = (c.carrier_at-s.ensures.near, subst (EndsIn c.args.chart.points.now c.args.chart.n) (sym c.carrier_at-s.ensures.is) (c.requires.fact_2.1.ends (c.args.from + (c.loop-k.k - 1)) (omega arith)));
      fact_3 = c.requires.fact_3;
      fact_4 = omega arith;
    }

pub loop-k-preserved : goal.loop-k-preserved
loop-k-preserved c =
    let l = c.loop-k in
    let s = c.args in
    let r = c.cut_edge-total in (
      search rules,
      r.auto.rows ∙ l.invariant.1,
      r.auto.links ∙ l.invariant.2,
      r.ensures.0,
      cut_turns _ (cut_row s.chart.points.now s.chart.n s.chart.carriers.now s.from s.m) l.invariant.4 r.new.rows r.result (search rules)
          (r.ensures.1 ∙ ap (λ (q : Seg). puts s.room (pieced l.rows l.total) (cut_edge s.chart.points.now s.chart.n q s.m (l.k - 1))) c.carrier_at-s.ensures.is),
    )

pub returns : goal.returns
returns c = (c.loop-k.invariant.3, cut_ends _ _ c.loop-k.invariant.4 (search rules))
