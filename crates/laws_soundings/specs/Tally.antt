-- Counts by cell (02, Ask 3): each list of labels that occurs, with how often, sorted. A table of counts takes soundings one after the other (`tally_from`), so that batches are one law
-- (`tally_batches_lem`); the counts add up to the number of soundings (`tally-total`); each entry counts what it says (`tally-times`); and entries stand in strict order (`tally-ordered`).
-- Over any number of maps. Assumes nothing.
use Rattle.std.specs.Prelude.{◌≡◌, refl, ◌≤◌, ◌&&◌, ◌||◌, ◌∷◌, ◌++◌, ◌+◌}
use Rattle.std.proofs.Common.{sym, ◌∙◌, ap, add-zero, zero-add, arith, eq-eqb, lt-ltb}
use Rattle.std.proofs.Math.Decide.{dec_lt}
use Rattle.seq.specs.Seq.{Bool, true, false, cond, List, ℕ, ltb, eqb, length, insert_by, []}
use Rattle.seq.specs.Terms.{Every, Ordered, Joins}
use Rattle.seq.specs.Sorted.{insert-ordered}
use Rattle.seq.specs.Tests.{clash, or_false}
use Rattle.seq.specs.Inserted.{insert-grows}
use Rattle.paper.specs.Soundings.{Entry, less_list, lesser, added, once, tally_from, tally}

-- ── what is said of counts ──

-- batches, one after the other
abbrev pub tally_batches : List Entry → List (List (List ℕ)) → List Entry
tally_batches t [] = t
tally_batches t (b ∷ bs) = tally_batches (tally_from t b) bs

abbrev pub the_end_to_end : List (List (List ℕ)) → List (List ℕ)
the_end_to_end [] = []
the_end_to_end (b ∷ bs) = b ++ the_end_to_end bs

abbrev pub total : List Entry → ℕ
total [] = 0
total (e ∷ es) = e.times + total es

abbrev pub same_list : List ℕ → List ℕ → Bool
same_list [] [] = true
same_list [] (y ∷ ys) = false
same_list (x ∷ xs) [] = false
same_list (x ∷ xs) (y ∷ ys) = eqb x y && same_list xs ys

-- how often the labels c occur: in a table of counts, in a list of soundings
abbrev pub times_of : List ℕ → List Entry → ℕ
times_of c [] = 0
times_of c (e ∷ es) = cond (same_list c e.labels) e.times 0 + times_of c es

abbrev pub occurs : List ℕ → List (List ℕ) → ℕ
occurs c [] = 0
occurs c (x ∷ xs) = cond (same_list c x) 1 0 + occurs c xs

-- ── batches ──

pub tally-++ : (t : List Entry) (xs ys : List (List ℕ)) → tally_from t (xs ++ ys) ≡ tally_from (tally_from t xs) ys
tally-++ t [] ys = refl
tally-++ t (x ∷ xs) ys = tally-++ (insert_by lesser added (once x) t) xs ys

-- "the summed counts are those of the whole list"
pub tally_batches_lem : (t : List Entry) (bs : List (List (List ℕ))) → tally_batches t bs ≡ tally_from t (the_end_to_end bs)
tally_batches_lem t [] = refl
tally_batches_lem t (b ∷ bs) = tally_batches_lem (tally_from t b) bs ∙ sym (tally-++ t b (the_end_to_end bs))

-- ── the counts add up ──

total-step : (p q : Entry) (qs r : List Entry) (c d : Bool) → total r ≡ p.times + total qs →
    total (cond c (p ∷ q ∷ qs) (cond d (q ∷ r) (added p q ∷ qs))) ≡ p.times + (q.times + total qs)
total-step p q qs r true d ih = refl
total-step p q qs r false true ih = omega arith
total-step p q qs r false false ih = omega arith

pub insert-total : (p : Entry) (qs : List Entry) → total (insert_by lesser added p qs) ≡ p.times + total qs
insert-total p [] = refl
insert-total p (q ∷ qs) = total-step p q qs (insert_by lesser added p qs) (lesser p q) (lesser q p) (insert-total p qs)

pub from_total : (t : List Entry) (cs : List (List ℕ)) → total (tally_from t cs) ≡ total t + length cs
from_total t [] = sym (add-zero (total t))
from_total t (c ∷ cs) = from_total (insert_by lesser added (once c) t) cs ∙ omega (arith, insert-total (once c) t)

-- "The counts add up to the number of soundings"
pub tally-total : (cs : List (List ℕ)) → total (tally cs) ≡ length cs
tally-total cs = from_total [] cs ∙ zero-add (length cs)

-- ── in strict order ──

joins : (p : Entry) → Joins lesser added p
joins p = record { after = λ x q u v e. e; ahead = λ q x u v e. e }

pub from_ordered : (t : List Entry) (cs : List (List ℕ)) → Ordered lesser t → Ordered lesser (tally_from t cs)
from_ordered t [] o = o
from_ordered t (c ∷ cs) o = from_ordered (insert_by lesser added (once c) t) cs (insert-ordered lesser added (once c) (joins (once c)) t o)

pub tally-ordered : (cs : List (List ℕ)) → Ordered lesser (tally cs)
tally-ordered cs = from_ordered [] cs tt

-- ── each entry counts what it says ──

-- of lists of one length, neither before the other: one list
same_by : (x y : ℕ) (xs ys : List ℕ) → ltb x y ≡ false → ltb y x ≡ false → (x ≡ y → xs ≡ ys) → x ∷ xs ≡ y ∷ ys
same_by x y xs ys a b f =
    let e : x ≡ y = equal x y a b in
    λ i. e i ∷ f e i
  where
    equal : (x y : ℕ) → ltb x y ≡ false → ltb y x ≡ false → x ≡ y
    equal x y a b =
        elim (dec_lt x y) [
          | yes s ↦ absurd (clash (lt-ltb x y s) a)
          | no s ↦ elim (dec_lt y x) [ yes t ↦ absurd (clash (lt-ltb y x t) b) | no t ↦ omega arith ]
        ]

pub neither-list_less : (xs ys : List ℕ) → length xs ≡ length ys → less_list xs ys ≡ false → less_list ys xs ≡ false → xs ≡ ys
neither-list_less [] [] l a b = refl
neither-list_less [] (y ∷ ys) l a b = absurd (omega arith)
neither-list_less (x ∷ xs) [] l a b = absurd (omega arith)
neither-list_less (x ∷ xs) (y ∷ ys) l a b =
    let p = or_false (ltb x y) (eqb x y && less_list xs ys) a in
    let q = or_false (ltb y x) (eqb y x && less_list ys xs) b in
    same_by x y xs ys p.0 q.0 (λ e. neither-list_less xs ys (omega arith) (second (eqb x y) (less_list xs ys) (eq-eqb x y e) p.1) (second (eqb y x) (less_list ys xs) (eq-eqb y x (sym e)) q.1))
  where
    second : (a b : Bool) → a ≡ true → (a && b) ≡ false → b ≡ false
    second a b e f = sym (ap (λ (c : Bool). c && b) e) ∙ f

-- an entry with n labels
abbrev pub Long : ℕ → Entry → Type 0
Long n e = length e.labels ≡ n

module _ (n : ℕ) where
  long_step : (p q : Entry) (qs r : List Entry) (c d : Bool) → Long n p → Long n q → Every (Long n) qs → Every (Long n) r → Every (Long n) (cond c (p ∷ q ∷ qs) (cond d (q ∷ r) (added p q ∷ qs)))
  long_step p q qs r true d a b h k = (a, (b, h))
  long_step p q qs r false true a b h k = (b, k)
  long_step p q qs r false false a b h k = (b, h)

  insert_long : (p : Entry) (qs : List Entry) → Long n p → Every (Long n) qs → Every (Long n) (insert_by lesser added p qs)
  insert_long p [] a h = (a, tt)
  insert_long p (q ∷ qs) a h = long_step p q qs (insert_by lesser added p qs) (lesser p q) (lesser q p) a h.0 h.1 (insert_long p qs a h.1)

  -- the entries of soundings with n labels each have n labels
  pub from_long : (t : List Entry) (cs : List (List ℕ)) → Every (Long n) t → Every (λ x. length x ≡ n) cs → Every (Long n) (tally_from t cs)
  from_long t [] h k = h
  from_long t (x ∷ xs) h k = from_long (insert_by lesser added (once x) t) xs (insert_long (once x) t k.0 h) k.1

  module _ (c : List ℕ) where
    abbrev share : Entry → ℕ
    share e = cond (same_list c e.labels) e.times 0

    split : (b : Bool) (x y : ℕ) → cond b (x + y) 0 ≡ cond b x 0 + cond b y 0
    split true x y = refl
    split false x y = refl

    times-step : (p q : Entry) (qs r : List Entry) (b d : Bool) → lesser p q ≡ b → lesser q p ≡ d → Long n p → Long n q → times_of c r ≡ share p + times_of c qs →
        times_of c (cond b (p ∷ q ∷ qs) (cond d (q ∷ r) (added p q ∷ qs))) ≡ share p + (share q + times_of c qs)
    times-step p q qs r true d e f a h ih = refl
    times-step p q qs r false true e f a h ih = omega arith
    times-step p q qs r false false e f a h ih =
        let s : p.labels ≡ q.labels = neither-list_less p.labels q.labels (a ∙ sym h) e f in
        let w : share (added p q) ≡ share p + share q = split (same_list c q.labels) p.times q.times ∙ ap (λ (l : List ℕ). cond (same_list c l) p.times 0 + share q) (sym s) in
        omega arith

    insert-times : (p : Entry) (qs : List Entry) → Long n p → Every (Long n) qs → times_of c (insert_by lesser added p qs) ≡ share p + times_of c qs
    insert-times p [] a h = refl
    insert-times p (q ∷ qs) a h = times-step p q qs (insert_by lesser added p qs) (lesser p q) (lesser q p) refl refl a h.0 (insert-times p qs a h.1)

    pub from_times : (t : List Entry) (cs : List (List ℕ)) → Every (Long n) t → Every (λ x. length x ≡ n) cs → times_of c (tally_from t cs) ≡ times_of c t + occurs c cs
    from_times t [] h k = sym (add-zero (times_of c t))
    from_times t (x ∷ xs) h k =
        let a = insert-times (once x) t k.0 h in
        from_times (insert_by lesser added (once x) t) xs (insert_long (once x) t k.0 h) k.1 ∙ omega arith

    -- of soundings with n labels each: an entry says how often its labels occur
    pub tally-times : (cs : List (List ℕ)) → Every (λ x. length x ≡ n) cs → times_of c (tally cs) ≡ occurs c cs
    tally-times cs k = from_times [] cs tt k ∙ zero-add (occurs c cs)

-- ── entries only come ──

-- a table that is over its room stays over it
pub tally-grows : (t : List Entry) (cs : List (List ℕ)) → length t ≤ length (tally_from t cs)
tally-grows t [] = omega arith
tally-grows t (c ∷ cs) = omega (arith, insert-grows lesser added (once c) t, tally-grows (insert_by lesser added (once c) t) cs)
