-- `thin::thinning::thin` meets its contract: the ends of the edges that stay are marked, the vertices numbered by the marks, and the rows moved. Assumes nothing.
use Rattle.paper.specs.Limits.{overlay_vertices}
use Rattle.overlay_graph.specs.Cut.{cut_by}
use Rattle.overlay_graph.specs.Given.{the_cut}
use Rattle.thin.specs.Laws.Tables.{zeros-hold, ends_numbered, thinned}
use native.Mathlib.Omega.{arith}
use Rattle.thin.proofs.thinning.thin.Goals as goal

pub mark_ends-requires : goal.mark_ends-requires
mark_ends-requires c =
    let T = c.requires.fact_1 in
    record { fact_1 = T.edges_in_lem; fact_2 = zeros-hold overlay_vertices c.args.cut.vertices (omega (arith, T.few_vertices)) }

pub move_pieces-edges-requires : goal.move_pieces-edges-requires
move_pieces-edges-requires c =
    let T = c.requires.fact_1 in
    record { fact_1 = ends_numbered c.args.cut.vertices c.args.cut.edges overlay_vertices _ _ T.edges_in_lem (omega (arith, T.few_vertices)) c.number.ensures; fact_2 = c.requires.fact_2.1 }

pub returns : goal.returns
returns c =
    let points = c.move_points-vertices.ensures in
    let pieces = c.move_pieces-edges.ensures in
    let a = c.args in
    thinned (the_cut a.cut) a.face.now a.triples.now c.requires.fact_1 _ _ _ c.mark_ends.ensures c.number.ensures
    (cut_by _ _ _ _) points.is points.rows pieces.is pieces.rows
