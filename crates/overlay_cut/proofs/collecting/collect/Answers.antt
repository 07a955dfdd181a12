-- `overlay_cut::collecting::collect` meets its contract: the corners, and then the crossings. Assumes nothing.
use mathlib.Core.Path.{sym, ◌∙◌, ap}
use mathlib.Core.List.{List, []}
use Rattle.paper.specs.Plane.{Pt}
use Rattle.overlay_cut.specs.Capped.{collect_in-++}
use Rattle.overlay_cut.specs.Points.{points_of, equal}
use Rattle.overlay_cut.specs.Crossed.{cross_all}
use Rattle.overlay_cut.specs.Collecting.{gathered, count_within}
use native.Mathlib.Omega.{arith}
use Rattle.overlay_cut.proofs.collecting.collect.Goals as goal
use Rattle.overlay_cut.proofs.collecting.collect.Goals.{After-corners-n, Start}

pub crossings-requires : goal.crossings-requires
crossings-requires c =
    let r = c.corners-n in record {
      fact_1 = record {
        long = omega (arith, r.auto.points);
        within = count_within c.args.room c.args.out.now r.new.points 0 r.result (points_of c.args.corner_rows.now c.args.c) (omega arith) r.ensures;
      };
      fact_2 = c.requires.fact_3;
      fact_3 = c.requires.fact_4;
    }

pub returns : goal.returns
returns c =
    let a = c.args in
    let cs = cross_all a.carriers.now a.starts.now in
    c.crossings.ensures ∙ ap (λ (l : List Pt). gathered a.room l cs) c.corners-n.ensures
    ∙ sym (collect_in-++ equal a.room [] (points_of a.corner_rows.now a.c) cs)
