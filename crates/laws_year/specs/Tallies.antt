-- Adding faces one by one: the tallies of some sheets, with one face more of file n, are the tallies of those sheets with that face (`add-face`), and so for all faces of a sheet
-- (`add-faces`, `add-sheet`). And tallies only grow in number. Assumes nothing.
use Rattle.std.specs.Prelude.{◌≡◌, ◌≤◌, ◌<◌, ◌∷◌, ◌++◌, ◌+◌}
use Rattle.std.proofs.Common.{◌∙◌}
use Rattle.seq.specs.Seq.{Bool, cond, List, [], map, ℕ, suc, length, is_in}
use Rattle.seq.specs.Terms.{Among}
use Rattle.seq.specs.PairOrder.{same_pair}
use Rattle.seq.specs.HowMany.{how_many}
use Rattle.seq.specs.Inserted.{insert-grows, insert_slow}
use Rattle.paper.specs.Year.{Pair, sorted_pairs}
use Rattle.laws_year.specs.Step.{Tally, tally_before, first_face, the_one_more, add_face}

-- the tally of each pair by three functions
abbrev pub tally_by : (Pair → ℕ) → (Pair → ℕ) → (Pair → ℕ) → Pair → Tally
tally_by s t l p = record { pair = p; sheets = s p; faces = t p; last = l p }

-- ── the faces of one sheet ──

-- with the sheets, faces and last files of the sheets before, and the faces seen of sheet n
module _ (before : List Pair) (S T L : Pair → ℕ) (n : ℕ) (earlier : (p : Pair) → L p < n)
    (unseen : (p : Pair) → (Among p before → ⊥) → (S p ≡ 0) × (T p ≡ 0)) where
  abbrev pub one : Bool → ℕ
  one b = cond b 1 0

  abbrev pub sheets_to : List Pair → Pair → ℕ
  sheets_to seen p = S p + one (is_in same_pair p seen)

  abbrev pub faces_to : List Pair → Pair → ℕ
  faces_to seen p = T p + how_many (same_pair p) seen

  abbrev pub last_to : List Pair → Pair → ℕ
  last_to seen p = cond (is_in same_pair p seen) n (L p)

  abbrev pub tallies_to : List Pair → List Tally
  tallies_to seen = map (tally_by (sheets_to seen) (faces_to seen) (last_to seen)) (sorted_pairs (before ++ seen))

-- ── tallies only grow ──

module _ (n : ℕ) where
  pub face-grows : (ts : List Tally) (p : Pair) → length ts ≤ length (add_face n ts p)
  face-grows ts p = insert-grows tally_before the_one_more (first_face n p) ts

  -- by one at most
  pub face_slow : (ts : List Tally) (p : Pair) → length (add_face n ts p) ≤ suc (length ts)
  face_slow ts p = insert_slow tally_before the_one_more (first_face n p) ts
