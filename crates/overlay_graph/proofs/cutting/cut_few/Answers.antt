-- `overlay_graph::cutting::cut_few` meets its contract. Assumes nothing.
use Prim.Native.Nat.{ℕ, ◌+◌, ◌-◌}
use native.Mathlib.Omega.{arith}
use Rattle.paper.specs.Limits.{maps}
use Rattle.graph.specs.Small.{small_vertices, small_edges}
use Rattle.overlay_maps.specs.Layers.{Layers}
use Rattle.overlay_maps.specs.Given.{the_layers}
use Rattle.overlay_graph.specs.Laws.Standing.{starts}
use Rattle.overlay_graph.specs.Laws.CutLaws.{ordered-near, ordered-rise, ordered-ended, cut_is}
use Rattle.overlay_graph.proofs.cutting.cut_few.Goals as goal
use Rattle.overlay_graph.proofs.cutting.cut_few.Goals.{Start}

-- the maps that are lent
abbrev l : Start → Layers
l s = the_layers s.args.layers

-- the rows of the table of points
abbrev room : ℕ
room = small_vertices + 1

pub collect_maps-n-requires : goal.collect_maps-n-requires
collect_maps-n-requires c = record { fact_1 = c.requires.fact_1; fact_2 = c.requires.fact_2.0 }

pub returns-then-n-ge-SMALL_VERTEX_ROWS : goal.returns-then-n-ge-SMALL_VERTEX_ROWS
returns-then-n-ge-SMALL_VERTEX_ROWS c = λ few. absurd (omega (arith, c.if-n-ge-SMALL_VERTEX_ROWS.true))

pub pieces-e-requires : goal.pieces-e-requires
pieces-e-requires c =
    let v = c.collect_maps-n in
    let few = c.if-n-ge-SMALL_VERTEX_ROWS.false in
    let ps = v.new.points in record {
      fact_1 = (ordered-near (l (goal.at.pieces-e-requires c).Start) c.requires.fact_1 room ps v.result v.ensures few (omega (arith, few, c.requires.fact_2.0, v.auto.points)), omega (arith, few), ordered-rise (l (goal.at.pieces-e-requires c).Start) c.requires.fact_1 room ps v.result v.ensures few);
      fact_2 = (starts (l (goal.at.pieces-e-requires c).Start) c.requires.fact_1, ordered-ended (l (goal.at.pieces-e-requires c).Start) c.requires.fact_1 room ps v.result v.ensures few);
      fact_3 = (record { edges = omega (arith, (c.requires.fact_1.stands (maps - 1) (omega arith)).origins_in); nodes = omega arith; few = omega arith }, λ h. absurd (omega arith));
      fact_4 = omega arith;
      fact_5 = c.requires.fact_2.1;
    }

pub returns : goal.returns
returns c =
    let v = c.collect_maps-n in
    let p = c.pieces-e in
    λ _ few. cut_is (l (goal.at.returns c).Start) c.requires.fact_1 room v.new.points v.result v.ensures c.if-n-ge-SMALL_VERTEX_ROWS.false (small_edges + 1) p.new.out p.result p.ensures (λ h. absurd (omega arith))
