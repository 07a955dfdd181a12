-- The tables of ends and carriers, with the points, are the overlay's graph: `graph_of` the maps that the tables hold. Assumes nothing.
use Rattle.std.specs.Prelude.{◌≡◌, refl, ◌≤◌, ◌<◌, ℤ, ◌∷◌, ◌+◌, ◌*◌, ◌-◌}
use Rattle.std.proofs.Math.Path.{sym}
use Rattle.std.proofs.Common.{◌∙◌, ap, suc-le-suc, zero-le, add-zero, not-suc-le-zero, le_of_suc-le-suc, arith, ltb-false}
use Rattle.std.proofs.Math.Option.{Option}
use Rattle.std.proofs.Math.Decide.{dec_lt}
use Rattle.std.proofs.Math.ListN.{get_or-eq_default}
use Rattle.seq.specs.Seq.{List, [], map, none, some, ℕ, zero, suc, ltb, length, get_or, cell, table, laid}
use Rattle.seq.proofs.Least.{least_min, least-le}
use Rattle.seq.specs.Table.{length-table, table_at, table-ext, table-map}
use Rattle.seq.specs.Laid.{laid_at}
use Rattle.seq.specs.Options.{none_some}
use Rattle.paper.specs.Limits.{maps}
use Rattle.paper.specs.Graph.{Edge, edge, no_edge}
use Rattle.paper.specs.Map.{Map}
use Rattle.paper.specs.Pieces.{layer, carrier_of, edge_of, graph_of}
use Rattle.graph.specs.Flat.{carrier_at, the_edge_at, flat_graph}
use Rattle.overlay_cut.specs.Points.{points_of}
use Rattle.overlay_cut.specs.PieceRows.{minus_one, piece_at, pieces_in}
use Rattle.overlay_cut.specs.Laws.Holds.{Holds, edges_in}
use Rattle.overlay_cut.specs.Net.{ends_of, the_source_in, first_map, no_seg, the_edge_in, carrier_in, seg_row}
use Rattle.overlay_cut.specs.Laws.NetLaws.{row-stored, edge-there, edge-absent, carrier_none, carrier_some, first_has}

-- ── the first source in a list ──

carrier_at_lem : (ms : List Map) (ss : List (Option ℕ)) (i k : ℕ) → i < length ms → get_or ss i none ≡ some k → ((j : ℕ) → j < i → get_or ss j none ≡ none)
    → carrier_of ms ss ≡ (edge (layer ms i).graph k).carrier
carrier_at_lem [] ss i k h e f = absurd (not-suc-le-zero h)
carrier_at_lem (m ∷ ms) [] i k h e f = absurd (none_some e)
carrier_at_lem (m ∷ ms) (none ∷ ss) zero k h e f = absurd (none_some e)
carrier_at_lem (m ∷ ms) (some r ∷ ss) zero k h e f = let q : r ≡ k = cc in ap (λ (j : ℕ). (edge m.graph j).carrier) q
carrier_at_lem (m ∷ ms) (none ∷ ss) (suc i) k h e f = carrier_at_lem ms ss i k (le_of_suc-le-suc h) e (λ j l. f (suc j) (suc-le-suc l))
carrier_at_lem (m ∷ ms) (some r ∷ ss) (suc i) k h e f = absurd (none_some (sym (f 0 (suc-le-suc zero-le))))

carrier-absent : (ms : List Map) (ss : List (Option ℕ)) → ((j : ℕ) → get_or ss j none ≡ none) → carrier_of ms ss ≡ no_seg
carrier-absent [] ss f = refl
carrier-absent (m ∷ ms) [] f = refl
carrier-absent (m ∷ ms) (none ∷ ss) f = carrier-absent ms ss (λ j. f (suc j))
carrier-absent (m ∷ ms) (some r ∷ ss) f = absurd (none_some (sym (f 0)))

-- ── of a row of the table of pieces ──

source_some : (n : ℕ) → 0 < n → minus_one n ≡ some (n - 1)
source_some zero h = absurd (not-suc-le-zero h)
source_some (suc n) h = let e : n ≡ suc n - 1 = omega arith in ap some e

source_none : (n : ℕ) → n ≤ 0 → minus_one n ≡ none
source_none zero h = refl
source_none (suc n) h = absurd (not-suc-le-zero h)

module _ (t : List ℕ) (k : ℕ) where
  source_at_lem : (m : ℕ) → m < maps → get_or (piece_at t k).sources m none ≡ minus_one (the_source_in t k m)
  source_at_lem m h = table_at (λ i. minus_one (the_source_in t k i)) maps m none h

  before_first : (j : ℕ) → j < first_map t k → get_or (piece_at t k).sources j none ≡ none
  before_first j h =
      source_at_lem j (omega (arith, least-le (λ m. ltb 0 (the_source_in t k m)) maps))
      ∙ source_none (the_source_in t k j) (ltb-false 0 (the_source_in t k j) (least_min (λ m. ltb 0 (the_source_in t k m)) maps j h))

  nowhere-sourced : maps ≤ first_map t k → (j : ℕ) → get_or (piece_at t k).sources j none ≡ none
  nowhere-sourced h j =
      elim (dec_lt j maps) [
        | yes l ↦ before_first j (omega arith)
        | no l ↦ get_or-eq_default (piece_at t k).sources none {n = j} (omega (arith, length-table (λ i. minus_one (the_source_in t k i)) maps))
      ]

module _ {ms : List Map} {corners : List ℤ} {c : ℕ} {cs : List ℤ} {st : List ℕ} (H : Holds ms corners c cs st) where
  -- edge j of map m
  edge_in : (m j : ℕ) → m < maps → the_edge_in cs st m j ≡ (edge (layer ms m).graph j).carrier
  edge_in m j h =
      elim (dec_lt j (edges_in ms m)) [
        | yes l ↦ sym (edge-there cs st m j (omega (arith, H.next m h))) ∙ H.carriers-are m j h l
        | no l ↦ sym (edge-absent cs st m j (omega (arith, H.next m h))) ∙ ap (λ (e : Edge). e.carrier) (sym (get_or-eq_default (layer ms m).graph.edges no_edge {n = j} (omega arith)))
      ]

  -- "of the first map that it comes from"
  pub carrier_is : (t : List ℕ) (k : ℕ) → carrier_in t cs st k ≡ carrier_of ms (piece_at t k).sources
  carrier_is t k =
      elim (dec_lt (first_map t k) maps) [
        | yes h ↦ sym (carrier_some t cs st k h) ∙ edge_in (first_map t k) (the_source_in t k (first_map t k) - 1) h
            ∙ sym (carrier_at_lem ms (piece_at t k).sources (first_map t k) (the_source_in t k (first_map t k) - 1) (omega (arith, H.count))
            (source_at_lem t k (first_map t k) h ∙ source_some (the_source_in t k (first_map t k)) (first_has t cs st k h)) (before_first t k))
        | no h ↦ sym (carrier_none t cs st k (omega arith)) ∙ sym (carrier-absent ms (piece_at t k).sources (nowhere-sourced t k (omega arith)))
      ]

  -- ── the graph ──

  module _ (t : List ℕ) (e : ℕ) (os d : List ℕ) (bs f : List ℤ) (o : os ≡ laid e (ends_of t) d) (b : bs ≡ laid e (λ k. seg_row (carrier_in t cs st k)) f) where
    end_at : (k j : ℕ) → k < e → j < 2 → cell 0 2 os k j ≡ get_or (ends_of t k) j 0
    end_at k j h l = ap (λ (x : List ℕ). cell 0 2 x k j) o ∙ laid_at 2 (ends_of t) (λ i. refl) e k j d 0 h l

    pub carrier-stored : (k : ℕ) → k < e → carrier_at bs k ≡ carrier_in t cs st k
    carrier-stored k h = row-stored e bs f (λ k. carrier_in t cs st k) b k h

    edge-stored : (k : ℕ) → k < e → the_edge_at os bs k ≡ edge_of ms (piece_at t k)
    edge-stored k h =
        let lo : get_or os (2 * k) 0 ≡ (piece_at t k).lo = ap (λ (i : ℕ). get_or os i 0) (sym (add-zero (2 * k))) ∙ end_at k 0 h (omega arith) in
        let hi : get_or os (2 * k + 1) 0 ≡ (piece_at t k).hi = end_at k 1 h (omega arith) in
        let s : carrier_at bs k ≡ carrier_of ms (piece_at t k).sources = carrier-stored k h ∙ carrier_is t k in
        λ i. record { from = lo i; to = hi i; carrier = s i }

    pub net_is : (ps : List ℤ) (n : ℕ) → flat_graph ps os bs n e ≡ graph_of ms (points_of ps n) (pieces_in t e)
    unfolding flat_graph
    net_is ps n =
        let q : table (the_edge_at os bs) e ≡ map (edge_of ms) (pieces_in t e) = table-ext (the_edge_at os bs) (λ k. edge_of ms (piece_at t k)) e edge-stored ∙ sym (table-map (edge_of ms) (piece_at t) e) in
        λ i. record { points = points_of ps n; edges = q i }
