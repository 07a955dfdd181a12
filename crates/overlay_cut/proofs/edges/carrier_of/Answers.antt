-- `overlay_cut::edges::carrier_of` meets its contract. Assumes nothing.
use mathlib.Core.Path.{◌≡◌, ◌∙◌, ap}
use Prim.Native.Nat.{◌-◌}
use Rattle.overlay_cut.specs.Net.{the_source_in, first_map, the_edge_in}
use Rattle.overlay_cut.specs.Laws.NetLaws.{carrier_none, carrier_some, first_has}
use native.Mathlib.Omega.{arith}
use Rattle.overlay_cut.proofs.edges.carrier_of.Goals as goal
use Rattle.overlay_cut.proofs.edges.carrier_of.Goals.{After-first_map-m, Start}

pub returns-then-m-ge-MAPS : goal.returns-then-m-ge-MAPS
returns-then-m-ge-MAPS c =
    let a = c.args in
    record {
      is = c.nothing.ensures.is ∙ carrier_none a.pieces.now a.carriers.now a.starts.now a.k (omega (arith, c.first_map-m.ensures));
      near = c.nothing.ensures.near;
    }

pub overflow_sub-source_in : goal.overflow_sub-source_in
overflow_sub-source_in c =
    let a = c.args in
    let e = c.first_map-m.ensures in
    omega (arith, c.source_in.ensures, ap (the_source_in a.pieces.now a.k) e, first_has a.pieces.now a.carriers.now a.starts.now a.k (omega (arith, e)))

pub returns : goal.returns
returns c =
    let a = c.args in
    let e = c.first_map-m.ensures in
    let n : c.source_in.result ≡ the_source_in a.pieces.now a.k (first_map a.pieces.now a.k) = c.source_in.ensures ∙ ap (the_source_in a.pieces.now a.k) e in record {
      is = c.edge_in.ensures.is ∙ (λ i. the_edge_in a.carriers.now a.starts.now (e i) (n i - 1)) ∙ carrier_some a.pieces.now a.carriers.now a.starts.now a.k (omega (arith, e));
      near = c.edge_in.ensures.near;
    }
