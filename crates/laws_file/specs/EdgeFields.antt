-- The fields of an edge record, by name: origins, sources, followers and faces, each at its place among the 16-bit numbers of the record. Of n maps, with b the
-- lower (0) or the upper (1) half-edge. Assumes nothing.
use Rattle.std.specs.Prelude.{◌≡◌, refl, ◌<◌, ◌∷◌, ◌++◌, ◌+◌, ◌*◌, ◌-◌}
use Rattle.std.proofs.Common.{sym, ◌∙◌, ap, add-zero, arith, get_or-append-add}
use Rattle.std.proofs.Math.Decide.{dec_lt}
use Rattle.std.proofs.Math.ListN.{get_or-append}
use Rattle.seq.specs.Seq.{List, [], ℕ, zero, suc, length, get_or, table}
use Rattle.seq.specs.Table.{length-table, table_at}
use Rattle.paper.specs.Tables.{origin_of, follower_of, face_of, source_cell, Tables}
use Rattle.paper.specs.Ovfile.{edge_fields}
use Rattle.laws_file.specs.Placed.{edge_width}

module _ (n : ℕ) (t : Tables) (k : ℕ) where
  abbrev fields : List ℕ
  fields = edge_fields n t k

  abbrev sources : List ℕ
  sources = table (source_cell n t k) n

  abbrev ends : List ℕ
  ends = follower_of t (2 * k) ∷ follower_of t (2 * k + 1) ∷ face_of t (2 * k) ∷ face_of t (2 * k + 1) ∷ []

  -- past the origins, and past the sources
  past_origins : (i : ℕ) → get_or fields (2 + i) 0 ≡ get_or (sources ++ ends) i 0
  past_origins i = let e : 2 + i ≡ suc (suc i) = omega arith in ap (λ (j : ℕ). get_or fields j 0) e

  past_sources : (j : ℕ) → get_or fields (2 + n + j) 0 ≡ get_or ends j 0
  past_sources j =
      let e : 2 + n + j ≡ 2 + (length sources + j) = omega (arith, length-table (source_cell n t k) n) in
      ap (λ (i : ℕ). get_or fields i 0) e ∙ past_origins (length sources + j) ∙ get_or-append-add sources ends j 0

  -- ── the fields ──

  pub field-origin : (b : ℕ) → b < 2 → get_or (edge_fields n t k) b 0 ≡ origin_of t (2 * k + b)
  field-origin zero l = ap (origin_of t) (sym (add-zero (2 * k)))
  field-origin (suc zero) l = refl
  field-origin (suc (suc b)) l = absurd (omega arith)

  pub field-source : (i : ℕ) → i < n → get_or (edge_fields n t k) (2 + i) 0 ≡ source_cell n t k i
  field-source i l = past_origins i ∙ get_or-append sources ends 0 i (omega (arith, length-table (source_cell n t k) n)) ∙ table_at (source_cell n t k) n i 0 l

  pub field-follower : (b : ℕ) → b < 2 → get_or (edge_fields n t k) (2 + n + b) 0 ≡ follower_of t (2 * k + b)
  field-follower zero l = past_sources 0 ∙ ap (follower_of t) (sym (add-zero (2 * k)))
  field-follower (suc zero) l = past_sources 1
  field-follower (suc (suc b)) l = absurd (omega arith)

  pub field-face : (b : ℕ) → b < 2 → get_or (edge_fields n t k) (4 + n + b) 0 ≡ face_of t (2 * k + b)
  field-face b l = let e : 4 + n + b ≡ 2 + n + (2 + b) = omega arith in ap (λ (i : ℕ). get_or fields i 0) e ∙ past_sources (2 + b) ∙ by b l
    where
      by : (b : ℕ) → b < 2 → get_or ends (2 + b) 0 ≡ face_of t (2 * k + b)
      by zero l = ap (face_of t) (sym (add-zero (2 * k)))
      by (suc zero) l = refl
      by (suc (suc b)) l = absurd (omega arith)

  -- ── and there are no others: numbers that are the fields by name are all the fields ──

  pub fields-are : (e : ℕ → ℕ) → ((b : ℕ) → b < 2 → origin_of t (2 * k + b) ≡ e b) → ((i : ℕ) → i < n → source_cell n t k i ≡ e (2 + i))
      → ((b : ℕ) → b < 2 → follower_of t (2 * k + b) ≡ e (2 + n + b)) → ((b : ℕ) → b < 2 → face_of t (2 * k + b) ≡ e (4 + n + b))
      → (j : ℕ) → j < edge_width n → get_or (edge_fields n t k) j 0 ≡ e j
  fields-are e os ss fs cs j l =
      elim (dec_lt j 2) [
        | yes q ↦ field-origin j q ∙ os j q
        | no q ↦ elim (dec_lt j (2 + n)) [
          | yes r ↦ at (2 + (j - 2)) (omega arith) (field-source (j - 2) (omega arith) ∙ ss (j - 2) (omega arith))
          | no r ↦ elim (dec_lt j (4 + n)) [
            | yes p ↦ at (2 + n + (j - (2 + n))) (omega arith) (field-follower (j - (2 + n)) (omega arith) ∙ fs (j - (2 + n)) (omega arith))
            | no p ↦ at (4 + n + (j - (4 + n))) (omega arith) (field-face (j - (4 + n)) (omega arith) ∙ cs (j - (4 + n)) (omega arith))
          ]
        ]
      ]
    where
      at : (i : ℕ) → i ≡ j → get_or fields i 0 ≡ e i → get_or fields j 0 ≡ e j
      at i q h = rw q at h
