-- The edge record of Defined. Over three maps, of tables with whole rows for all edges, in which an edge number + 1 fits. Assumes nothing.
use Rattle.std.specs.Prelude.{◌≡◌, refl, ◌<◌, ◌≤◌, ◌∷◌, ◌+◌, ◌*◌, ◌^◌}
use Rattle.std.proofs.Common.{◌∙◌, arith, lt-ltb, le-leb}
use Rattle.seq.specs.Seq.{Bool, true, false, cond, List, [], Option, none, some, Option·map, ℕ, zero, suc, ltb, leb, all_below}
use Rattle.seq.specs.Tests.{and_both}
use Rattle.seq.proofs.Least.{all_has}
use Rattle.paper.specs.Limits.{maps}
use Rattle.paper.specs.Map.{Map}
use Rattle.paper.specs.Pieces.{layer}
use Rattle.paper.specs.Tables.{Counts, Tables, origin_of, source_cell}
use Rattle.paper.specs.Lent.{lengths_of, edge_room}
use Rattle.paper.specs.Record.{Source, first, second, both, third, first_third, second_third, all, source_by, OverlayEdge, has_edge, edge_record}
use Rattle.laws_map.specs.Keeps.{edges}
use Rattle.laws_promise.specs.Defined.{Near, EdgeRows, minus_one, From, Says, EdgeRecords}

module _ (m n p : Map) (c : Counts) (t : Tables) (E : EdgeRows (m ∷ n ∷ p ∷ []) c t) (room : c.edges ≤ edge_room maps (lengths_of t))
    (few : (i : ℕ) → i < maps → edges (layer (m ∷ n ∷ p ∷ []) i) ≤ 256 ^ 2) (past : (k i : ℕ) → c.edges ≤ k → i < maps → source_cell maps t k i ≡ 0) where
  abbrev ms : List Map
  ms = m ∷ n ∷ p ∷ []

  -- the record, by whether the tables have the edge, and the three cells
  abbrev given : ℕ → Bool → ℕ → ℕ → ℕ → Option OverlayEdge
  given k h x y z = cond h (Option·map (λ s. record { lower = origin_of t (2 * k); upper = origin_of t (2 * k + 1); source = s }) (source_by x y z)) none

  -- no edge has no source
  no_source : (k : ℕ) → k < c.edges → ((i : ℕ) → i < maps → source_cell maps t k i ≡ 0) → ⊥
  no_source k l e = go (E.edge_is k l)
    where
      go : (i : ℕ) × (j : ℕ) × Near ms c t i j (origin_of t (2 * k)) (origin_of t (2 * k + 1)) → ⊥
      go (i, j, r) = omega (arith, e i r.in_list, E.source-there k i j l r)

  fits_at : (k i j : ℕ) → k < c.edges → i < maps → source_cell maps t k i ≡ j → j ≤ 256 ^ 2
  fits_at k i zero l b e = omega arith
  fits_at k i (suc j) l b e = let r = (E.source_is k i j l b e).of_map in omega (arith, few i b)

  module _ (k : ℕ) (l : k < c.edges) where
    has : has_edge t k ≡ true
    has =
        and_both {a = ltb k (edge_room maps (lengths_of t))} {b = all_below (λ i. leb (source_cell maps t k i) (256 ^ 2)) maps} (lt-ltb k (edge_room maps (lengths_of t)) (omega (arith, room)))
        (all_has (λ i. leb (source_cell maps t k i) (256 ^ 2)) maps (λ i b. le-leb (source_cell maps t k i) (256 ^ 2) (fits_at k i (source_cell maps t k i) l b refl)))

    -- what a cell says of its map
    from_cell : (i x : ℕ) → i < maps → source_cell maps t k i ≡ x → From ms c t (origin_of t (2 * k)) (origin_of t (2 * k + 1)) i (minus_one x)
    from_cell i zero b e = λ j r. omega (arith, e, E.source-there k i j l r)
    from_cell i (suc j) b e = E.source_is k i j l b e

    abbrev Found : Type 0
    Found = (s : Source) × (edge_record t k ≡ some (record { lower = origin_of t (2 * k); upper = origin_of t (2 * k + 1); source = s })) × Says ms c t (origin_of t (2 * k)) (origin_of t (2 * k + 1)) s

    found : Found
    found = go (source_cell maps t k 0) (source_cell maps t k 1) (source_cell maps t k 2) refl refl refl
      where
        is : (x y z : ℕ) → source_cell maps t k 0 ≡ x → source_cell maps t k 1 ≡ y → source_cell maps t k 2 ≡ z → edge_record t k ≡ given k true x y z
        is x y z e f g = λ i. given k (has i) (e i) (f i) (g i)

        go : (x y z : ℕ) → source_cell maps t k 0 ≡ x → source_cell maps t k 1 ≡ y → source_cell maps t k 2 ≡ z → Found
        go zero zero zero e f g = absurd (no_source k l all_zero_lem)
          where
            all_zero_lem : (i : ℕ) → i < maps → source_cell maps t k i ≡ 0
            all_zero_lem zero b = e
            all_zero_lem (suc zero) b = f
            all_zero_lem (suc (suc zero)) b = g
            all_zero_lem (suc (suc (suc i))) b = absurd (omega arith)
        go (suc j) zero zero e f g = (first j, is (suc j) 0 0 e f g, (from_cell 0 (suc j) (omega arith) e, from_cell 1 0 (omega arith) f, from_cell 2 0 (omega arith) g))
        go zero (suc r) zero e f g = (second r, is 0 (suc r) 0 e f g, (from_cell 0 0 (omega arith) e, from_cell 1 (suc r) (omega arith) f, from_cell 2 0 (omega arith) g))
        go (suc j) (suc r) zero e f g = (both j r, is (suc j) (suc r) 0 e f g, (from_cell 0 (suc j) (omega arith) e, from_cell 1 (suc r) (omega arith) f, from_cell 2 0 (omega arith) g))
        go zero zero (suc q) e f g = (third q, is 0 0 (suc q) e f g, (from_cell 0 0 (omega arith) e, from_cell 1 0 (omega arith) f, from_cell 2 (suc q) (omega arith) g))
        go (suc j) zero (suc q) e f g = (first_third j q, is (suc j) 0 (suc q) e f g, (from_cell 0 (suc j) (omega arith) e, from_cell 1 0 (omega arith) f, from_cell 2 (suc q) (omega arith) g))
        go zero (suc r) (suc q) e f g = (second_third r q, is 0 (suc r) (suc q) e f g, (from_cell 0 0 (omega arith) e, from_cell 1 (suc r) (omega arith) f, from_cell 2 (suc q) (omega arith) g))
        go (suc j) (suc r) (suc q) e f g = (all j r q, is (suc j) (suc r) (suc q) e f g, (from_cell 0 (suc j) (omega arith) e, from_cell 1 (suc r) (omega arith) f, from_cell 2 (suc q) (omega arith) g))

  absent : (k : ℕ) → c.edges ≤ k → edge_record t k ≡ none
  absent k l = (λ i. given k (has_edge t k) (past k 0 l (omega arith) i) (past k 1 l (omega arith) i) (past k 2 l (omega arith) i)) ∙ nothing (has_edge t k)
    where
      nothing : (h : Bool) → given k h 0 0 0 ≡ none
      nothing true = refl
      nothing false = refl

  pub edge-records : EdgeRecords (m ∷ n ∷ p ∷ []) c t
  edge-records = record { record_is = found; record_absent = absent }
