-- `graph_faces::looking::strictly_west` meets its contract. Assumes nothing.
use mathlib.Core.Path.{sym, ◌∙◌, ap, subst}
use native.Mathlib.Omega.{arith}
use borrow.Author.Rules.{rules}
use Rattle.paper.specs.Plane.{Pt, nowhere}
use Rattle.plane.specs.Bounds.{Near}
use Rattle.graph.specs.Heading.{flat_ends, flat-carried}
use Rattle.graph.specs.Look.{candidate_at}
use Rattle.graph_faces.specs.Sides.{one_side_none}
use Rattle.graph_faces.proofs.looking.strictly_west.Goals as goal

pub returns-then-one_side : goal.returns-then-one_side
returns-then-one_side c =
    let a = c.args in
    let S = c.requires.fact_1 in
    sym (ap (λ (q : Pt). candidate_at a.g.points.now a.g.origins.now a.g.carriers.now q nowhere a.k) c.requires.fact_2.2
    ∙ one_side_none a.g.points.now a.g.origins.now a.g.carriers.now a.g.vertices a.g.edges S.flat S.plane (S.rises c.if-rising.true) a.k c.requires.fact_2.0 a.v c.requires.fact_2.1 (sym c.one_side.ensures ∙ c.if-one_side.true))
