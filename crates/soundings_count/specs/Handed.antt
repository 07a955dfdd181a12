-- A table of pairs that was handed in: a row that does not come after the one before it (`falls_at`), and the sum of the counts (`sum_of`), as the code finds them. Where no row falls the entries stand in strict order, and the other
-- way round (`risen_ordered`, `ordered_risen`); the sum is theirs (`sum_is`). Assumes nothing.
use Rattle.std.specs.Prelude.{◌≡◌, refl, ◌≤◌, ◌<◌, ◌∷◌, ◌++◌, ◌+◌, ◌*◌, ◌-◌}
use Rattle.std.proofs.Common.{sym, ◌∙◌, ap, subst, add-one, arith}
use Rattle.std.proofs.Math.Decide.{dec_lt}
use Rattle.seq.specs.Seq.{Bool, true, false, not, List, [], ℕ, zero, suc, get_or, the_some_below}
use Rattle.seq.specs.Terms.{Ordered}
use Rattle.seq.specs.Tests.{was-true}
use Rattle.seq.proofs.Least.{no_some, no_some_is}
use Rattle.seq.specs.Sorted.{rising-ordered}
use Rattle.seq.specs.Halves.{rises-rising}
use Rattle.paper.specs.Soundings.{Entry, less_list, lesser}
use Rattle.laws_soundings.specs.Tally.{total}
use Rattle.soundings_count.specs.Entries.{pair_width, the_labels_at, entry_at, entries_in, most_times, Rows}
use Rattle.soundings_count.specs.InOrder.{less_trans, ordered-rows}

abbrev pub falls_at : List ℕ → ℕ → Bool
falls_at ls zero = false
falls_at ls (suc i) = not (less_list (the_labels_at ls i) (the_labels_at ls (suc i)))

abbrev pub sum_of : List ℕ → ℕ → ℕ
sum_of cs zero = 0
sum_of cs (suc n) = let r = sum_of cs n in r + get_or cs n 0

-- ── the order ──

module _ (ls : List ℕ) (n : ℕ) where
  risen_rows : the_some_below (falls_at ls) n ≡ false → Rows ls n
  risen_rows h i zero l m = absurd (omega arith)
  risen_rows h i (suc j) l m =
      let step : less_list (the_labels_at ls j) (the_labels_at ls (suc j)) ≡ true = was-true (less_list (the_labels_at ls j) (the_labels_at ls (suc j))) (no_some_is (falls_at ls) n h (suc j) m) in
      elim (dec_lt i j) [
        | yes q ↦ less_trans (the_labels_at ls i) (the_labels_at ls j) (the_labels_at ls (suc j)) (risen_rows h i j q (omega arith)) step
        | no q ↦ let e : j ≡ i = omega arith in subst (λ (k : ℕ). less_list (the_labels_at ls k) (the_labels_at ls (suc j)) ≡ true) e step
      ]

  pub risen_ordered : (cs : List ℕ) → the_some_below (falls_at ls) n ≡ false → Ordered lesser (entries_in ls cs n)
  risen_ordered cs h = rising-ordered lesser (entries_in ls cs n) (rises-rising lesser (entry_at ls cs) n (risen_rows h))

  pub ordered_risen : (cs : List ℕ) → Ordered lesser (entries_in ls cs n) → the_some_below (falls_at ls) n ≡ false
  ordered_risen cs o = no_some (falls_at ls) n at
    where
      at : (k : ℕ) → k < n → falls_at ls k ≡ false
      at zero l = refl
      at (suc k) l = ap not (ordered-rows ls cs n o k (suc k) (omega arith) l)

-- as the code asks
pub falls_first : (ls : List ℕ) (i : ℕ) → i ≡ 0 → false ≡ falls_at ls i
falls_first ls i e = sym (ap (falls_at ls) e)

pub falls-later : (ls : List ℕ) (i : ℕ) (b : Bool) → (i ≡ 0 → ⊥) → b ≡ less_list (the_labels_at ls (i - 1)) (get_or ls (pair_width * i) 0 ∷ get_or ls (pair_width * i + 1) 0 ∷ []) → not b ≡ falls_at ls i
falls-later ls zero b q e = absurd (q refl)
falls-later ls (suc i) b q e =
    let one : suc i - 1 ≡ i = omega arith in
    let z : pair_width * suc i ≡ pair_width * suc i + 0 = omega arith in
    ap not (e ∙ (λ t. less_list (the_labels_at ls (one t)) (get_or ls (z t) 0 ∷ get_or ls (pair_width * suc i + 1) 0 ∷ [])))

-- ── the sum ──

total_more : (xs : List Entry) (e : Entry) → total (xs ++ (e ∷ [])) ≡ total xs + e.times
total_more [] e = omega arith
total_more (x ∷ xs) e = omega (arith, total_more xs e)

pub sum_is : (ls cs : List ℕ) (n : ℕ) → total (entries_in ls cs n) ≡ sum_of cs n
sum_is ls cs zero = refl
sum_is ls cs (suc n) = total_more (entries_in ls cs n) (entry_at ls cs n) ∙ ap (λ (k : ℕ). k + get_or cs n 0) (sum_is ls cs n)

-- before turn i the first i are summed, each of 32 bits
pub record Summing (cs : List ℕ) (n t i : ℕ) : Type 0 where
  pub within : i ≤ n
  pub is : t ≡ sum_of cs i
  pub few : t ≤ most_times * i

pub sum_starts : (cs : List ℕ) (n : ℕ) → Summing cs n 0 0
sum_starts cs n = record { within = omega arith; is = refl; few = omega arith }

module _ {cs : List ℕ} {n t i : ℕ} (s : Summing cs n t i) where
  pub sum_turns : (x : ℕ) → i < n → x ≡ get_or cs i 0 → x ≤ most_times → Summing cs n (t + x) (i + 1)
  sum_turns x l e h = record { within = omega arith; is = (λ j. s.is j + e j) ∙ sym (ap (sum_of cs) (add-one i)); few = omega (arith, s.few) }

  pub sum_ends : n ≤ i → t ≡ sum_of cs n
  sum_ends h = let e : i ≡ n = omega (arith, s.within) in s.is ∙ ap (sum_of cs) e
