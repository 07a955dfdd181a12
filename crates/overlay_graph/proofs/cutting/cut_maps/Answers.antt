-- `overlay_graph::cutting::cut_maps` meets its contract. Assumes nothing.
use native.Mathlib.Omega.{arith}
use Prim.Native.Nat.{ℕ}
use lib.ListN.{length-replicate, get_or-replicate}
use Rattle.overlay_cut.specs.Rooms.{vertex_rows, edge_rows}
use Rattle.overlay_maps.specs.Layers.{Layers}
use Rattle.overlay_maps.specs.Given.{the_layers}
use Rattle.overlay_graph.specs.Laws.Standing.{starts}
use Rattle.overlay_graph.specs.Laws.CutLaws.{ordered-near, ordered-rise, ordered-ended, cut_is, cut_over}
use Rattle.overlay_graph.proofs.cutting.cut_maps.Goals as goal
use Rattle.overlay_graph.proofs.cutting.cut_maps.Goals.{Start}

-- the maps that are lent
abbrev l : Start → Layers
l s = the_layers s.args.layers

pub vertices_by-swept-requires : goal.vertices_by-swept-requires
vertices_by-swept-requires c =
    let few = c.requires.fact_1.edges_few in record {
      fact_1 = c.requires.fact_1;
      fact_2 = c.requires.fact_2.0;
      fact_3 =
          record {
            spools = record { edges = omega (arith, few, length-replicate {A = ℕ} 900 0); nodes = omega (arith, c.requires.fact_2.1); few = omega arith };
            none = λ k h. get_or-replicate {A = ℕ} 900 k 0 0 (omega (arith, few));
          };
    }

pub returns-then-n-ge-VERTEX_ROWS : goal.returns-then-n-ge-VERTEX_ROWS
returns-then-n-ge-VERTEX_ROWS c =
    let v = c.vertices_by-swept in
    cut_over (l (goal.at.returns-then-n-ge-VERTEX_ROWS c).Start) c.requires.fact_1 vertex_rows v.new.points v.result.stops v.ensures.collected (omega arith) c.if-n-ge-VERTEX_ROWS.true v.new.nodes 0

pub pieces-e-requires : goal.pieces-e-requires
pieces-e-requires c =
    let v = c.vertices_by-swept in
    let few = c.if-n-ge-VERTEX_ROWS.false in
    let ps = v.new.points in
    let C = v.ensures.collected in
    let edges_few = c.requires.fact_1.edges_few in record {
      fact_1 = (ordered-near (l (goal.at.pieces-e-requires c).Start) c.requires.fact_1 vertex_rows ps v.result.stops C few (omega (arith, few, c.requires.fact_2.0, v.auto.points)), omega (arith, few), ordered-rise (l (goal.at.pieces-e-requires c).Start) c.requires.fact_1 vertex_rows ps v.result.stops C few);
      fact_2 = (starts (l (goal.at.pieces-e-requires c).Start) c.requires.fact_1, ordered-ended (l (goal.at.pieces-e-requires c).Start) c.requires.fact_1 vertex_rows ps v.result.stops C few);
      fact_3 = (
        record {
          edges = omega (arith, edges_few, v.auto.last, length-replicate {A = ℕ} 900 0);
          nodes = omega (arith, c.requires.fact_2.1, v.auto.nodes);
          few = omega arith;
        },
        v.ensures.threads,
      );
      fact_4 = omega arith;
      fact_5 = omega (arith, c.requires.fact_2.1, v.auto.nodes);
    }

pub returns : goal.returns
returns c =
    let v = c.vertices_by-swept in
    let p = c.pieces-e in
    cut_is (l (goal.at.returns c).Start) c.requires.fact_1 vertex_rows v.new.points v.result.stops v.ensures.collected c.if-n-ge-VERTEX_ROWS.false edge_rows p.new.out p.result p.ensures (λ h. omega arith)
