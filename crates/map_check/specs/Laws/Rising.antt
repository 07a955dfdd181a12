-- The pass from below: edges in cells that stand in turn are in the order of their lower ends, each once; so those from the first that starts where an edge ends, or after, do not
-- clash with it (`above_clear`), and where no edge clashes with one in a later cell the search for the least that clashes finds nothing (`turn-least`). The same of edges in their own order
-- (`pairs-least`). Assumes nothing.
use Rattle.std.specs.Prelude.{◌≡◌, ◌≤◌, ◌<◌, ◌+◌, ◌*◌}
use Rattle.std.proofs.Common.{sym, ◌∙◌, subst, arith, le-ltb}
use Rattle.std.proofs.Math.Decide.{dec_lt}
use Rattle.seq.specs.RisingKeys.{ByKey}
use Rattle.seq.specs.Seq.{false, List, ℕ, ℤ, least}
use Rattle.paper.specs.Plane.{head, clash}
use Rattle.laws_plane.specs.Clash.{clash-swap}
use Rattle.laws_fast.specs.Clashes.{order_least}
use Rattle.laws_fast.specs.Keys.{number_of}
use Rattle.laws_fast.specs.Sides.{end_to_end}
use Rattle.graph.specs.Flat.{carrier_at, Carriers}
use Rattle.graph.specs.Upright.{Upright}
use Rattle.keys.specs.Cells.{low_key, base, cell_at, the_edge_in, InTurn}
use Rattle.keys.specs.Turn.{corner_before, turn-order}
use Rattle.map_check.specs.Net.{clashing_at}
use Rattle.map_check.specs.Pass.{ClearAfter, ClearAbove}

-- a number that ends a row of cells is at most that of a cell after it
ends_row : (a b c m : ℕ) → a * base ≤ c → b * base + m ≡ c → m < base → a ≤ b
ends_row a b c m h q l = omega arith

module _ (cs : List ℤ) (ds : List ℕ) (e : ℕ) (few : e ≤ base) (T : InTurn cs ds e) where
  abbrev order : ByKey (low_key cs) e (the_edge_in ds)
  order = turn-order cs ds e T few

  module _ (C : Carriers cs e) (U : Upright cs e) where
    low_from : (j k : ℕ) → j ≤ k → k < e → low_key cs (the_edge_in ds j) ≤ low_key cs (the_edge_in ds k)
    low_from j k l h =
        elim (dec_lt j k) [
          | yes m ↦ order.rising j k m h
          | no m ↦ let q : k ≡ j = omega arith in subst (λ (x : ℕ). low_key cs (the_edge_in ds j) ≤ low_key cs (the_edge_in ds x)) (sym q) (omega arith)
        ]

    -- the edge in cell j starts where that in cell i ends, or after, so those in later cells do
    pub above_clear : (i j k : ℕ) → i < e → number_of (head (carrier_at cs (the_edge_in ds i))) * base ≤ cell_at ds j → j ≤ k → k < e →
        clash (carrier_at cs (the_edge_in ds i)) (carrier_at cs (the_edge_in ds k)) ≡ false
    above_clear i j k li a l h =
        let s = carrier_at cs (the_edge_in ds i) in
        let t = carrier_at cs (the_edge_in ds k) in
        let us = U.up (the_edge_in ds i) (T.each i li).named in
        let ut = U.up (the_edge_in ds k) (T.each k h).named in
        let S = (C.near (the_edge_in ds i) (T.each i li).named).head_is in
        let R = (C.near (the_edge_in ds k) (T.each k h).named).foot_is in
        let J = T.each j (omega arith) in
        let below : number_of (head s) ≤ low_key cs (the_edge_in ds j) = ends_row (number_of (head s)) (low_key cs (the_edge_in ds j)) (cell_at ds j) (the_edge_in ds j) a J.own (omega (arith, J.named, few)) in
        clash-swap s t us ut
        ∙ end_to_end t s ut us
        (corner_before t.foot (head s) R S
        ∙ le-ltb (number_of t.foot) (number_of (head s)) (omega (arith, below, low_from j k l h)))

    pub turn-least : ((i : ℕ) → i < e → ClearAbove cs ds e i) → least (clashing_at cs e) e ≡ e
    turn-least f = order_least (carrier_at cs) e U.up (the_edge_in ds) order.each (λ i j l h. f i (omega arith) j l h)

-- ── in their own order ──

pub pairs-least : (cs : List ℤ) (e : ℕ) → Upright cs e → ((i : ℕ) → i < e → ClearAfter (carrier_at cs) e i) → least (clashing_at cs e) e ≡ e
pairs-least cs e U f = order_least (carrier_at cs) e U.up (λ k. k) (record { into = λ i l. l; once = λ i j li lj q. q }) (λ i j l h. f i (omega arith) j l h)
