-- Rows of values by a function of their number: rows that rise are a table in order, and back (`rises-pairs`, `pairs-rises`); and two that rise and have the same members are one:
-- as many, and the same at each place (`same_count`, `same_at`). Over any relation, for the last one that is asymmetric. Assumes nothing.
use Rattle.std.specs.Prelude.{◌≡◌, ◌<◌}
use Rattle.std.proofs.Common.{sym, ◌∙◌, ap, subst, subst₂, arith}
use Rattle.seq.specs.Seq.{List, ℕ, zero, suc, length, get_or, table}
use Rattle.seq.specs.Terms.{Among, Pairs}
use Rattle.seq.specs.Pairs.{pairs_at, at_pairs}
use Rattle.seq.specs.Table.{length-table, table_at, among-table, table-among}
use Rattle.seq.specs.Sorted.{pairs-unique}

-- of the numbers below n: f rises
abbrev pub RisesBelow : {A : Type 0} → (A → A → Type 0) → ℕ → (ℕ → A) → Type 0
RisesBelow lt n f = (i j : ℕ) → i < j → j < n → lt (f i) (f j)

-- each value of f is one of g
abbrev pub Within : {A : Type 0} → ℕ → (ℕ → A) → ℕ → (ℕ → A) → Type 0
Within n f m g = (i : ℕ) → i < n → (j : ℕ) × (j < m) × (g j ≡ f i)

module _ {A : Type 0} (lt : A → A → Type 0) where
  pub pairs-rises : (n : ℕ) (f : ℕ → A) → Pairs lt (table f n) → RisesBelow lt n f
  pairs-rises n f r i j s k =
      subst₂ lt (table_at f n i (f i) (omega arith)) (table_at f n j (f i) k) (pairs_at lt (table f n) (f i) r i j s (omega (arith, length-table f n)))

  pub rises-pairs : (n : ℕ) (f : ℕ → A) → RisesBelow lt n f → Pairs lt (table f n)
  rises-pairs zero f h = tt
  rises-pairs (suc n) f h =
      at_pairs lt (table f (suc n)) (f 0)
      (λ i j s k. let l : j < suc n = omega (arith, length-table f (suc n)) in
      subst₂ lt (sym (table_at f (suc n) i (f 0) (omega arith))) (sym (table_at f (suc n) j (f 0) l)) (h i j s l))

  module _ (asym : (x y : A) → lt x y → lt y x → ⊥) (n m : ℕ) (f g : ℕ → A) (rf : RisesBelow lt n f) (rg : RisesBelow lt m g) (to : Within n f m g) (back : Within m g n f) where
    same_table : table f n ≡ table g m
    same_table = pairs-unique lt asym (table f n) (table g m) (rises-pairs n f rf) (rises-pairs m g rg) (member n f m g to) (member m g n f back)
      where
        member : (n : ℕ) (f : ℕ → A) (m : ℕ) (g : ℕ → A) → Within n f m g → (z : A) → Among z (table f n) → Among z (table g m)
        member n f m g w z i =
            let (k, l, e) = table-among f n z i in
            let (j, h, q) = w k l in
            subst (λ (x : A). Among x (table g m)) (q ∙ e) (among-table g m j h)

    pub same_count : n ≡ m
    same_count = sym (length-table f n) ∙ ap length same_table ∙ length-table g m

    pub same_at : (i : ℕ) → i < n → f i ≡ g i
    same_at i l = sym (table_at f n i (f i) l) ∙ ap (λ (t : List A). get_or t i (f i)) same_table ∙ table_at g m i (f i) (omega (arith, same_count))
