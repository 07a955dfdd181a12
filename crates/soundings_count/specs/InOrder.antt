-- The order of pairs, and a table of pairs in strict order: once a row is not less than a pair, none after it is, so that a search by halves finds the pair's place. Assumes nothing.
use Rattle.std.specs.Prelude.{◌≡◌, refl, ◌&&◌, ◌∷◌}
use Rattle.std.proofs.Common.{◌∙◌, ap, ⊎_elim, arith, ltb-true, eqb-true, lt-ltb, eq-eqb}
use Rattle.seq.specs.Seq.{Bool, true, not, List, [], ℕ, eqb, ltb, table}
use Rattle.seq.specs.Tests.{clash, not-true, was-false, or_l, or_r, or_cases, and_parts, and_both}
use Rattle.seq.specs.Terms.{Ordered}
use Rattle.seq.specs.Sorted.{ordered-rising}
use Rattle.seq.specs.Members.{in_every}
use Rattle.seq.specs.Halves.{Lasts, rising-rises}
use Rattle.paper.specs.Soundings.{Entry, less_list, lesser}
use Rattle.soundings_count.specs.Entries.{the_labels_at, entry_at, entries_in, Rows}

-- ── the order of labels ──

pub less_trans : (xs ys zs : List ℕ) → less_list xs ys ≡ true → less_list ys zs ≡ true → less_list xs zs ≡ true
less_trans [] ys zs e f = absurd (clash e refl)
less_trans (x ∷ xs) [] zs e f = absurd (clash e refl)
less_trans (x ∷ xs) (y ∷ ys) [] e f = absurd (clash f refl)
less_trans (x ∷ xs) (y ∷ ys) (z ∷ zs) e f =
    ⊎_elim
    (λ a. or_l (eqb x z && less_list xs zs) (lt-ltb x z (⊎_elim (λ b. omega (arith, ltb-true x y a, ltb-true y z b)) (λ b. omega (arith, ltb-true x y a, eqb-true y z (and_parts (eqb y z) (less_list ys zs) b).0)) (or_cases (ltb y z) (eqb y z && less_list ys zs) f))))
    (λ a. let u = and_parts (eqb x y) (less_list xs ys) a in
    ⊎_elim (λ b. or_l (eqb x z && less_list xs zs) (lt-ltb x z (omega (arith, ltb-true y z b, eqb-true x y u.0))))
    (λ b. let v = and_parts (eqb y z) (less_list ys zs) b in
    or_r (ltb x z) (and_both (eq-eqb x z (eqb-true x y u.0 ∙ eqb-true y z v.0)) (less_trans xs ys zs u.1 v.1)))
    (or_cases (ltb y z) (eqb y z && less_list ys zs) f))
    (or_cases (ltb x y) (eqb x y && less_list xs ys) e)

module _ (ls cs : List ℕ) (n : ℕ) where
  abbrev Any : Entry → Type 0
  Any e = Unit

  pub ordered-rows : Ordered lesser (entries_in ls cs n) → Rows ls n
  ordered-rows o =
      rising-rises lesser (entry_at ls cs) n
      (ordered-rising lesser Any (λ x y z p q r e f. less_trans x.labels y.labels z.labels e f) (table (entry_at ls cs) n) (in_every Any (table (entry_at ls cs) n) (λ z i. tt)) o)

module _ (ls : List ℕ) (n a b : ℕ) (R : Rows ls n) where
  -- row k is not less than the pair
  abbrev pub reached_at : ℕ → Bool
  reached_at k = not (less_list (the_labels_at ls k) (a ∷ b ∷ []))

  pub rows_last : Lasts reached_at n
  rows_last i j s k e = ap not (not-true (less_list (the_labels_at ls j) (a ∷ b ∷ [])) (λ f. clash (less_trans (the_labels_at ls i) (the_labels_at ls j) (a ∷ b ∷ []) (R i j s k) f) (was-false (less_list (the_labels_at ls i) (a ∷ b ∷ [])) e)))
