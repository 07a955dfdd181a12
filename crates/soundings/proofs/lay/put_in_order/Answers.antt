-- `soundings::lay::put_in_order` meets its contract. Assumes nothing.
use mathlib.Core.Path.{◌≡◌, sym, subst}
use Prim.Native.Nat.{◌*◌}
use native.Mathlib.Omega.{arith}
use borrow.Author.Rules.{rules}
use lib.ListN.{length}
use Rattle.paper.specs.Limits.{map_edges}
use Rattle.graph.specs.Flat.{Carriers}
use Rattle.looks.specs.Ordering.{EachEnds}
use Rattle.looks.specs.Ordered.{flat_each}
use Rattle.soundings.specs.Laid.{is_ready_by}
use Rattle.soundings.proofs.lay.put_in_order.Goals as goal

pub lay_order-requires : goal.lay_order-requires
lay_order-requires c =
    let a = c.args in
    let is = c.edge_count-e.ensures in
    let L = c.requires in
    record { fact_1 = omega (arith, is, L.few); fact_2 = subst (EachEnds a.corners.now a.origins.now) (sym is) (flat_each _ _ _ _ _ L.flat); fact_3 = search rules }

pub lay_rails-requires : goal.lay_rails-requires
lay_rails-requires c =
    let a = c.args in
    let is = c.edge_count-e.ensures in
    let L = c.requires in
    let r : length a.rails.now ≡ 4 * map_edges = search rules in
    let s : length a.easts.now ≡ map_edges = search rules in (
      (omega (arith, is, L.few), omega (arith, is, L.labels_long), subst (EachEnds a.corners.now a.origins.now) (sym is) (flat_each _ _ _ _ _ L.flat)),
      (subst (Carriers a.carriers.now) (sym is) L.flat.carriers, (c.lay_order.ensures.numbers, (omega (arith, is, L.few, r), omega (arith, is, L.few, s)))),
    )

pub returns : goal.returns
returns c =
    let a = c.args in
    let r : length a.rails.now ≡ 4 * map_edges = search rules in
    let s : length a.easts.now ≡ map_edges = search rules in
    is_ready_by c.edge_count-e.ensures c.requires c.lay_order.ensures (record { rows = omega (arith, r); labels = omega (arith, s) }) c.lay_rails.ensures.rows c.lay_rails.ensures.labels
