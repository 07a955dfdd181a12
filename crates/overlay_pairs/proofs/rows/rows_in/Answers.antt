-- `overlay_pairs::rows::rows_in` meets its contract. Assumes nothing.
use native.Mathlib.Omega.{arith}
use Rattle.overlay_maps.specs.Layers.{Layers}
use Rattle.overlay_maps.specs.Given.{the_layers}
use Rattle.overlay_graph.specs.Cut.{Cut}
use Rattle.overlay_graph.specs.Given.{the_cut}
use Rattle.overlay_pairs.specs.Pairs.{outers_long, holes_long, readable, rows_are}
use Rattle.overlay_pairs.proofs.rows.rows_in.Goals as goal
use Rattle.overlay_pairs.proofs.rows.rows_in.Goals.{Start}

-- the records of the lent tables
abbrev L : Start → Layers
L s = the_layers s.args.layers

abbrev C : Start → Cut
C s = the_cut s.args.cut

pub overflow_add-n : goal.overflow_add-n
overflow_add-n c = omega (arith, c.requires.fact_2.1)

pub lay_labels-requires : goal.lay_labels-requires
lay_labels-requires c =
    let a = c.args in
    let O = c.requires.fact_1.outlined in
    record {
      fact_1 = O.held;
      fact_2 = readable (L (goal.at.lay_labels-requires c).Start) (C (goal.at.lay_labels-requires c).Start) a.net.ends.now a.net.lines.now a.net.next.now a.net.outers.now a.net.count O;
      fact_3 = c.requires.fact_2.0;
    }

pub lay_outers-requires : goal.lay_outers-requires
lay_outers-requires c =
    let a = c.args in
    record {
      fact_1 = omega (arith, outers_long (L (goal.at.lay_outers-requires c).Start) (C (goal.at.lay_outers-requires c).Start) a.net.ends.now a.net.lines.now a.net.next.now a.net.outers.now a.net.count c.requires.fact_1.outlined);
      fact_2 = c.requires.fact_2.1;
    }

pub lay_holes-requires : goal.lay_holes-requires
lay_holes-requires c =
    let a = c.args in
    record {
      fact_1 = holes_long (L (goal.at.lay_holes-requires c).Start) (C (goal.at.lay_holes-requires c).Start) a.net.ends.now a.net.lines.now a.net.next.now a.net.outers.now a.net.holes.now a.net.count c.requires.fact_1;
      fact_2 = c.requires.fact_2.2;
    }

pub returns : goal.returns
returns c =
    let a = c.args in
    rows_are (L (goal.at.returns c).Start) (C (goal.at.returns c).Start) a.net.ends.now a.net.lines.now a.net.next.now a.net.outers.now a.net.holes.now a.net.count c.requires.fact_1 _ _ _ a.triples.now a.outer.now a.counts.now
    c.lay_labels.ensures
    c.lay_outers.ensures
    c.lay_holes.ensures

pub shape_of-triples : goal.shape_of-triples
shape_of-triples c = c.lay_labels.auto.out

pub shape_of-outer : goal.shape_of-outer
shape_of-outer c = c.lay_outers.auto.out

pub shape_of-counts : goal.shape_of-counts
shape_of-counts c = c.lay_holes.auto.out
