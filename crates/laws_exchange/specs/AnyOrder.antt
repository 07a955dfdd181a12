-- Ask 11, "Which map comes first", from the overlay's promise alone (`Promised`, crates/tables/specs/Promise.antt), for any number of map files in any other order: file i of the one list is file `to i` of the other
-- (`FilesRenumbered`). r and t come out of the one order, s and u of the other, in lent tables of the same lengths l. Of valid maps the answer is the same: `exchanged-answer`. Done: `exchanged-done`, and the labels of each half-edge `exchanged-labels`. Refused for room:
-- `exchanged_room`. Bad maps: `exchanged-bad`, `first_handed_in`. The definition's side: Orders and Exchanged of laws_orders. Assumes nothing.
use Rattle.std.specs.Prelude.{◌≡◌, ◌⊎◌, ◌<◌, ◌+◌, ◌*◌}
use Rattle.std.proofs.Common.{sym, ◌∙◌, ap, subst, inl, inr, arith}
use Rattle.seq.specs.Seq.{List, [], some, ℕ, suc, length, get_or}
use Rattle.paper.specs.Refusal.{Refusal, done, refused}
use Rattle.paper.specs.Map.{check, fault, vertex_count, edges_in}
use Rattle.paper.specs.Tables.{Counts, Tables, source_cell, face_cell}
use Rattle.paper.specs.Lent.{Lengths, Outcome, zero_tables}
use Rattle.paper.specs.Overlay.{lent}
use Rattle.laws_refusals.specs.Refusals.{refused_some}
use Rattle.laws_overlay.specs.Files.{maps_of, maps-count, files-keep}
use Rattle.laws_overlay.specs.Parts.{half-there}
use Rattle.laws_overlay.proofs.Exchange.{renumber_label}
use Rattle.laws_labels.specs.Done.{done-passes, done-counts}
use Rattle.laws_orders.specs.Orders.{FilesRenumbered, named, maps-renumbered, orders-done}
use Rattle.laws_orders.proofs.Orders.{orders-bad}
use Rattle.laws_orders.specs.Exchanged.{SameTables, done_too, exchanged-tables}
use Rattle.laws_orders.specs.FromCheck.{Good, AllGood, FirstBad, ByCheck, ForRoom, good-passes}
use Rattle.laws_orders.proofs.FromCheck.{check-refuses}
use Rattle.laws_orders.proofs.CheckRefused.{refused_for, by_check-refused}
use Rattle.laws_promise.specs.Demands.{pair_for, refused_is_first}
use Rattle.tables.specs.Answers as code
use Rattle.tables.specs.Values.{answer_of}
use Rattle.tables.specs.Promise.{Promised}

-- of n maps and the counts c: tables t, and tables u of the same maps in another order
pub record Exchanged (n : ℕ) (to : ℕ → ℕ) (c : Counts) (t u : Tables) : Type 0 where
  -- "the same vertices, followers and faces": of vertices and half-edges every cell
  pub vertices : u.vertices ≡ t.vertices
  pub halves : u.halves ≡ t.halves
  -- "with only the sources and the labels of each pair exchanged": what was of map i is of map `to i`
  pub sources : (k i : ℕ) → k < c.edges → i < n → source_cell n u k (to i) ≡ source_cell n t k i
  pub labels : (f i : ℕ) → f < c.faces → i < n → face_cell n u f (to i) ≡ face_cell n t f i
  -- a face's least half-edge, and its count of hole walks
  pub least : (f : ℕ) → f < c.faces → face_cell n u f n ≡ face_cell n t f n
  pub holes : (f : ℕ) → f < c.faces → face_cell n u f (n + 1) ≡ face_cell n t f (n + 1)

-- "just one map is bad": file i, and q is what the check says of it
pub record JustBad (fs : List (List ℕ)) (i : ℕ) (q : Refusal) : Type 0 where
  pub in_list : i < length fs
  pub refuses : check (get_or fs i []) ≡ refused q
  pub others : (j : ℕ) → j < length fs → (j ≡ i → ⊥) → Good (get_or fs j [])

module _ (l : Lengths) (fs gs : List (List ℕ)) (to back : ℕ → ℕ) (R : FilesRenumbered fs gs to back) (r s : code.Answer) (t u : Tables) (one : Promised l fs r t) (two : Promised l gs s u) where
  answer_one : answer_of r ≡ (lent l fs).answer
  answer_one = ap (λ (o : Outcome). o.answer) one

  answer_two : answer_of s ≡ (lent l gs).answer
  answer_two = ap (λ (o : Outcome). o.answer) two

  tables_one : t ≡ (lent l fs).tables
  tables_one = ap (λ (o : Outcome). o.tables) one

  tables_two : u ≡ (lent l gs).tables
  tables_two = ap (λ (o : Outcome). o.tables) two

  -- of valid maps: the same answer, counts or a refusal for room
  pub exchanged-answer : AllGood fs → answer_of s ≡ answer_of r
  exchanged-answer G = answer_two ∙ (orders-done l fs gs to back R (λ i b. good-passes (get_or fs i []) (G i b))).same_answer ∙ sym answer_one

  -- ── done ──

  module _ (c : Counts) (e : answer_of r ≡ done c) where
    d : (lent l fs).answer ≡ done c
    d = sym answer_one ∙ e

    same : SameTables (length fs) to c t u
    same =
        subst (λ (n : ℕ). SameTables n to c t u) (maps-count fs)
        (subst (λ (x : Tables). SameTables (length (maps_of fs)) to c x u) (sym tables_one)
        (subst (λ (x : Tables). SameTables (length (maps_of fs)) to c (lent l fs).tables x) (sym tables_two) (exchanged-tables l fs gs to back R c d)))

    -- "For two valid maps and the same room, exchanging them must give the same vertices, followers and faces, with only the sources and the labels of each pair exchanged"
    pub exchanged-done : (answer_of s ≡ done c) × Exchanged (length fs) to c t u
    exchanged-done = (
      answer_two ∙ done_too l fs gs to back R c d,
      record {
        vertices = same.vertices;
        halves = same.halves;
        sources = same.sources;
        labels = same.labels;
        least = same.least;
        holes = same.holes;
      },
    )

    -- the labels of each half-edge too
    pub exchanged-labels : (h i : ℕ) → h < 2 * c.edges → i < length fs → get_or (pair_for gs h) (to i) 0 ≡ get_or (pair_for fs h) i 0
    exchanged-labels h i a b =
        renumber_label (maps_of fs) (maps_of gs) to back (maps-renumbered l fs gs to back R) (files-keep fs (done-passes l fs c d)) h
        (half-there (maps_of fs) (subst (λ (z : Counts). h < 2 * z.edges) (done-counts l fs c d) a)) i (subst (λ (n : ℕ). i < n) (sym (maps-count fs)) b)

  -- ── refused for room ──

  -- "a refusal for room is the same too"
  pub exchanged_room : (q : Refusal) → answer_of r ≡ refused q → q.number ≡ 11 → (answer_of s ≡ refused q) × (t ≡ zero_tables l) × (u ≡ zero_tables l)
  exchanged_room q e eleven = go (refused_for l fs q (sym answer_one ∙ e))
    where
      go : ByCheck fs q ⊎ ForRoom fs q → (answer_of s ≡ refused q) × (t ≡ zero_tables l) × (u ≡ zero_tables l)
      go (inl C) = absurd (omega (arith, eleven, (by_check-refused l fs q C).2))
      go (inr F) =
          let a : answer_of s ≡ refused q = exchanged-answer F.good ∙ e in
          (a, (refused_is_first l fs r t one q e).1, (refused_is_first l gs s u two q a).1)

  -- ── bad maps ──

  -- "If just one map is bad, the refusal names the other map number": the same number, place and other edge
  pub exchanged-bad : (i : ℕ) (q : Refusal) → JustBad fs i q → (answer_of r ≡ refused (named (suc i) q)) × (answer_of s ≡ refused (named (suc (to i)) q)) × (t ≡ zero_tables l) × (u ≡ zero_tables l)
  exchanged-bad i q B =
      let bad : fault (get_or fs i []) ≡ some q = refused_some (vertex_count (get_or fs i []), edges_in (get_or fs i [])) q (fault (get_or fs i [])) B.refuses in
      let (a, b, x, y) = orders-bad l fs gs to back R i q B.in_list (λ j lj d. good-passes (get_or fs j []) (B.others j lj d)) bad in
      (answer_one ∙ a, answer_two ∙ b, tables_one ∙ x, tables_two ∙ y)

  -- "and if both are bad the first one handed in is named": in each order its first
  pub first_handed_in : (i j : ℕ) (q p : Refusal) → FirstBad fs i q → FirstBad gs j p → (answer_of r ≡ refused (named (suc i) q)) × (answer_of s ≡ refused (named (suc j) p)) × (t ≡ zero_tables l) × (u ≡ zero_tables l)
  first_handed_in i j q p F G =
      let (a, x) = check-refuses l fs i q F in
      let (b, y) = check-refuses l gs j p G in
      (answer_one ∙ a, answer_two ∙ b, tables_one ∙ x, tables_two ∙ y)
