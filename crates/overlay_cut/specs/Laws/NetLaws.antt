-- What the code does for the graph's tables, turn by turn: the ends of an edge stored; the first map that a piece comes from, and the carrier there.
-- Assumes nothing.
use Rattle.std.specs.Prelude.{◌≡◌, refl, ◌≤◌, ◌<◌, set, ℤ, pos, ◌∷◌, ◌+◌, ◌*◌, ◌-◌}
use Rattle.std.proofs.Common.{sym, ◌∙◌, ap, subst, add-zero, add-one, arith, lt-ltb, le-ltb, ltb-true}
use Rattle.seq.specs.Seq.{List, [], map, ℕ, zero, suc, ltb, get_or, cell, table, laid}
use Rattle.seq.proofs.Least.{least-holds}
use Rattle.seq.specs.Laid.{laid_at}
use Rattle.seq.specs.Table.{table-ext, table-map}
use Rattle.paper.specs.Limits.{maps}
use Rattle.paper.specs.Plane.{Seg}
use Rattle.paper.specs.Tables.{the_plus_one}
use Rattle.plane.specs.Values.{seg}
use Rattle.graph.specs.Flat.{carrier_at}
use Rattle.seq.specs.Loops.Storing.{Laying, lay_turns}
use Rattle.overlay_cut.specs.PieceRows.{piece_width, minus_one, piece_at}
use Rattle.overlay_cut.specs.Cuts.{start_of}
use Rattle.overlay_cut.specs.Net.{ends_of, the_source_in, first_map, no_seg, the_edge_in, carrier_in, seg_row}

-- both ends of edge k
pub ends_turns : (t : List ℕ) {e : ℕ} {d u : List ℕ} {k : ℕ} → Laying 2 (ends_of t) e d u k → k < e
    → Laying 2 (ends_of t) e d (set (set u (2 * k) (get_or t (piece_width * k) 0)) (2 * k + 1) (get_or t (piece_width * k + 1) 0)) (k + 1)
ends_turns t {e} {d} {u} {k} r h =
    let a = get_or t (piece_width * k) 0 in
    let b = get_or t (piece_width * k + 1) 0 in
    let f : a ≡ (piece_at t k).lo = ap (λ (i : ℕ). get_or t i 0) (sym (add-zero (piece_width * k))) in
    subst (λ (i : ℕ). Laying 2 (ends_of t) e d (set (set u (2 * k) a) i b) (k + 1)) (sym (add-one (2 * k)))
    (lay_turns r {vs = a ∷ b ∷ []} (λ j. refl) h refl (ap (λ (x : ℕ). x ∷ b ∷ []) f))

module _ (cs : List ℤ) (st : List ℕ) (m j : ℕ) where
  pub edge-there : start_of st m + j < start_of st (m + 1) → carrier_at cs (start_of st m + j) ≡ the_edge_in cs st m j
  edge-there h = sym (rw (lt-ltb (start_of st m + j) (start_of st (m + 1)) h))

  pub edge-absent : start_of st (m + 1) ≤ start_of st m + j → no_seg ≡ the_edge_in cs st m j
  edge-absent h = sym (rw (le-ltb (start_of st m + j) (start_of st (m + 1)) h))

module _ (t : List ℕ) (cs : List ℤ) (st : List ℕ) (k : ℕ) where
  pub carrier_none : maps ≤ first_map t k → no_seg ≡ carrier_in t cs st k
  carrier_none h = sym (rw (le-ltb (first_map t k) maps h))

  pub carrier_some : first_map t k < maps → the_edge_in cs st (first_map t k) (the_source_in t k (first_map t k) - 1) ≡ carrier_in t cs st k
  carrier_some h = sym (rw (lt-ltb (first_map t k) maps h))

  -- it has a source there
  pub first_has : first_map t k < maps → 0 < the_source_in t k (first_map t k)
  first_has h = ltb-true 0 (the_source_in t k (first_map t k)) (least-holds (λ m. ltb 0 (the_source_in t k m)) maps h)

-- a table of edges, row by row
pub row-stored : (e : ℕ) (bs f : List ℤ) (g : ℕ → Seg) → bs ≡ laid e (λ k. seg_row (g k)) f → (k : ℕ) → k < e → carrier_at bs k ≡ g k
row-stored e bs f g b k h = λ i. seg (at 0 (omega arith) i) (at 1 (omega arith) i) (at 2 (omega arith) i) (at 3 (omega arith) i)
  where
    at : (j : ℕ) → j < 4 → cell (pos 0) 4 bs k j ≡ get_or (seg_row (g k)) j (pos 0)
    at j l = ap (λ (x : List ℤ). cell (pos 0) 4 x k j) b ∙ laid_at 4 (λ k. seg_row (g k)) (λ i. refl) e k j f (pos 0) h l

-- the sources of the piece in row k, "first source + 1 or 0, second source + 1 or 0"
plus-minus : (n : ℕ) → the_plus_one (minus_one n) ≡ n
plus-minus zero = refl
plus-minus (suc n) = refl

pub source_row : (t : List ℕ) (k : ℕ) → map the_plus_one (piece_at t k).sources ≡ table (the_source_in t k) maps
source_row t k =
    table-map the_plus_one (λ i. minus_one (the_source_in t k i)) maps ∙ table-ext (λ i. the_plus_one (minus_one (the_source_in t k i))) (the_source_in t k) maps (λ i h. plus-minus (the_source_in t k i))
