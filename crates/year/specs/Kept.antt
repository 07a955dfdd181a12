-- What a table of pairs and a number keep: at most 500 tallies, or that there are more pairs; and how large the numbers of tallies can be. Assumes nothing.
use Rattle.std.specs.Prelude.{◌≡◌, refl, ◌≤◌, ◌<◌, ◌∷◌, ◌++◌, ◌+◌}
use Rattle.std.proofs.Common.{subst, not-suc-le-zero, le_of_suc-le-suc, arith}
use Rattle.seq.specs.Seq.{Bool, true, false, cond, List, [], ℕ, zero, suc, min, ltb, eqb, length, get_or, insert_by}
use Rattle.seq.specs.Terms.{Every}
use Rattle.seq.specs.Table.{length-table, table_at}
use Rattle.paper.specs.Limits.{year_pairs}
use Rattle.paper.specs.Year.{Pair}
use Rattle.laws_year.specs.Step.{Tally, tally_before, first_face, the_one_more, add_face}
use Rattle.laws_year.specs.Capped.{Capped, capped, cap_face, cap_faces}
use Rattle.year.specs.TallyRows.{tally_at, tallies_in, no_tally}

-- "more than 500 pairs" is a number over 500
abbrev pub kept : List ℕ → ℕ → Capped
kept t n = record { tallies = tallies_in t (min year_pairs n); over = ltb year_pairs n }

-- the largest number to which one can be added in 32 bits
abbrev pub most : ℕ
most = 4294967294

abbrev pub Low : ℕ → Tally → Type 0
Low k x = (x.sheets ≤ k) × (x.faces ≤ k)

-- no tally has more than k sheets or faces
abbrev pub Few : ℕ → List Tally → Type 0
Few k l = Every (Low k) l

pub few_more : (j k : ℕ) (l : List Tally) → j ≤ k → Few j l → Few k l
few_more j k [] h f = tt
few_more j k (x ∷ xs) h (a, f) = ((omega arith, omega arith), few_more j k xs h f)

one_step : (k : ℕ) (s : ℕ) (c : Bool) → s ≤ k → cond c s (suc s) ≤ suc k
one_step k s true h = omega arith
one_step k s false h = omega arith

one_low : (k : ℕ) (x y : Tally) → Low k y → Low (suc k) (the_one_more x y)
one_low k x y (a, b) = (one_step k y.sheets (eqb y.last x.last) a, omega arith)

insert-step : (k : ℕ) (x q : Tally) (qs r : List Tally) (b c : Bool) → Low (suc k) x → Low k q → Few k qs → Few (suc k) r → Few (suc k) (cond b (x ∷ q ∷ qs) (cond c (q ∷ r) (the_one_more x q ∷ qs)))
insert-step k x q qs r true c a h f g = (a, ((omega arith, omega arith), few_more k (suc k) qs (omega arith) f))
insert-step k x q qs r false true a h f g = ((omega arith, omega arith), g)
insert-step k x q qs r false false a h f g = (one_low k x q h, few_more k (suc k) qs (omega arith) f)

insert_few : (k : ℕ) (x : Tally) (l : List Tally) → Low (suc k) x → Few k l → Few (suc k) (insert_by tally_before the_one_more x l)
insert_few k x [] a f = (a, tt)
insert_few k x (q ∷ qs) a (h, f) = insert-step k x q qs (insert_by tally_before the_one_more x qs) (tally_before x q) (tally_before q x) a h f (insert_few k x qs a f)

pub face_few : (k n : ℕ) (l : List Tally) (p : Pair) → Few k l → Few (suc k) (add_face n l p)
face_few k n l p f = insert_few k (first_face n p) l (omega arith, omega arith) f

cap-step : (k : ℕ) (old new : List Tally) (b : Bool) → Few (suc k) old → Few (suc k) new → Few (suc k) (cond {A = Capped} b (record { tallies = old; over = true }) (record { tallies = new; over = false })).tallies
cap-step k old new true f g = f
cap-step k old new false f g = g

over_step : (k : ℕ) (c d : Capped) (b : Bool) → Few (suc k) c.tallies → Few (suc k) d.tallies → Few (suc k) (cond b c d).tallies
over_step k c d true f g = f
over_step k c d false f g = g

pub cap_few : (k n : ℕ) (c : Capped) (p : Pair) → Few k c.tallies → Few (suc k) (cap_face n c p).tallies
cap_few k n c p f =
    let g : Few (suc k) c.tallies = few_more k (suc k) c.tallies (omega arith) f in
    over_step k c (capped c.tallies (add_face n c.tallies p)) c.over g
    (cap-step k c.tallies (add_face n c.tallies p) (ltb year_pairs (length (add_face n c.tallies p))) g (face_few k n c.tallies p f))

-- each face adds one at most
pub faces_few : (k n : ℕ) (c : Capped) (ps : List Pair) → Few k c.tallies → Few (length ps + k) (cap_faces n c ps).tallies
faces_few k n c [] f = few_more k (0 + k) c.tallies (omega arith) f
faces_few k n c (p ∷ ps) f = few_more (length ps + suc k) (suc (length ps) + k) (cap_faces n (cap_face n c p) ps).tallies (omega arith) (faces_few (suc k) n (cap_face n c p) ps (cap_few k n c p f))

-- a face after the others
pub faces-snoc : (n : ℕ) (c : Capped) (ps : List Pair) (p : Pair) → cap_faces n c (ps ++ (p ∷ [])) ≡ cap_face n (cap_faces n c ps) p
faces-snoc n c [] p = refl
faces-snoc n c (q ∷ ps) p = faces-snoc n (cap_face n c q) ps p

-- one of them
few_get_d : (k : ℕ) (l : List Tally) (i : ℕ) → Few k l → i < length l → Low k (get_or l i no_tally)
few_get_d k [] i f h = absurd (not-suc-le-zero h)
few_get_d k (x ∷ xs) zero (a, f) h = a
few_get_d k (x ∷ xs) (suc i) (a, f) h = few_get_d k xs i f (le_of_suc-le-suc h)

pub kept_low : (k : ℕ) (t : List ℕ) (n r : ℕ) → Few k (kept t n).tallies → n ≤ year_pairs → r < n → Low k (tally_at t r)
kept_low k t n r f h l =
    let m : ℕ = min year_pairs n in
    let b : r < m = omega arith in
    subst (Low k) (table_at (tally_at t) m r no_tally b) (few_get_d k (tallies_in t m) r f (omega (arith, length-table (tally_at t) m)))
