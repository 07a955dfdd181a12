-- A table of pairs: rows of zone, block, sheets, faces and last file. What is read of a row is a tally; a tally stored as row r is set in the list of those read. Assumes nothing.
use Rattle.std.specs.Prelude.{◌≡◌, refl, ◌≤◌, ◌<◌, set, ◌∷◌, ◌+◌, ◌*◌}
use Rattle.std.proofs.Common.{sym, ◌∙◌, ap, arith, length-set, get_or-set_same, get_or-set_other, ext_get_or}
use Rattle.std.proofs.Math.Decide.{ℕ_discrete}
use Rattle.seq.specs.Seq.{List, [], ℕ, length, get_or, cell, table, row_stored}
use Rattle.seq.specs.Table.{length-table, table_at}
use Rattle.seq.specs.Cells.{row_same, row_other}
use Rattle.paper.specs.Year.{Pair}
use Rattle.laws_year.specs.Step.{Tally, first_face, the_one_more}

abbrev pub tally_width : ℕ
tally_width = 5

-- what is read of a row's cells
abbrev pub read_tally : (ℕ → ℕ) → Tally
read_tally f = record { pair = (f 0, f 1); sheets = f 2; faces = f 3; last = f 4 }

pub read-ext : (f g : ℕ → ℕ) → ((j : ℕ) → j < tally_width → f j ≡ g j) → read_tally f ≡ read_tally g
read-ext f g h = λ i. record { pair = (h 0 (omega arith) i, h 1 (omega arith) i); sheets = h 2 (omega arith) i; faces = h 3 (omega arith) i; last = h 4 (omega arith) i }

-- the cells of a tally
abbrev pub cells_of : Tally → List ℕ
cells_of x = x.pair.0 ∷ x.pair.1 ∷ x.sheets ∷ x.faces ∷ x.last ∷ []

-- the tally in row r, and its pair
abbrev pub tally_at : List ℕ → ℕ → Tally
tally_at t r = read_tally (λ j. cell 0 tally_width t r j)

abbrev pub pair_at : List ℕ → ℕ → Pair
pair_at t r = (tally_at t r).pair

-- those in the first n rows
abbrev pub tallies_in : List ℕ → ℕ → List Tally
tallies_in t n = table (tally_at t) n

abbrev pub no_tally : Tally
no_tally = first_face 0 (0, 0)

-- one face more of a file in a tally
abbrev pub again : ℕ → Tally → Tally
again file old = the_one_more (first_face file old.pair) old

module _ (t : List ℕ) (r : ℕ) (x : Tally) (room : tally_width * r + tally_width ≤ length t) where
  abbrev stored : List ℕ
  stored = row_stored tally_width t r (cells_of x)

  same : tally_at stored r ≡ x
  same = read-ext (λ j. cell 0 tally_width stored r j) (λ j. get_or (cells_of x) j 0) (λ j l. row_same tally_width t r (cells_of x) refl j 0 l room)

  other : (i : ℕ) → (i ≡ r → ⊥) → tally_at stored i ≡ tally_at t i
  other i q = read-ext (λ j. cell 0 tally_width stored i j) (λ j. cell 0 tally_width t i j) (λ j l. row_other tally_width t r (cells_of x) refl i j 0 l q)

  -- a tally stored in one of n rows
  pub tally-stored : (n : ℕ) → r < n → tallies_in (row_stored tally_width t r (cells_of x)) n ≡ set (tallies_in t n) r x
  tally-stored n l =
      ext_get_or no_tally (tallies_in stored n) (set (tallies_in t n) r x) (length-table (tally_at stored) n ∙ sym (length-set (tallies_in t n) r x ∙ length-table (tally_at t) n))
      (λ i q. let b : i < n = omega (arith, length-table (tally_at stored) n) in table_at (tally_at stored) n i no_tally b ∙ at i b)
    where
      at : (i : ℕ) → i < n → tally_at stored i ≡ get_or (set (tallies_in t n) r x) i no_tally
      at i b =
          elim (ℕ_discrete i r) [
            | yes q ↦ ap (tally_at stored) q ∙ same ∙ sym (ap (λ (j : ℕ). get_or (set (tallies_in t n) r x) j no_tally) q ∙ get_or-set_same (tallies_in t n) r x no_tally (omega (arith, length-table (tally_at t) n)))
            | no q ↦ other i q ∙ sym (get_or-set_other (tallies_in t n) r i x no_tally q ∙ table_at (tally_at t) n i no_tally b)
          ]
