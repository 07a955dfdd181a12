-- Sources of pieces as lists, one place for each map: of a piece from one edge alone, and of two pieces merged. A place that is filled stays filled. Assumes nothing.
use Rattle.std.specs.Prelude.{◌≡◌, refl, ◌⊎◌, ◌<◌, ◌∷◌}
use Rattle.std.proofs.Common.{sym, ◌∙◌, ap, inl, inr, arith, eq-eqb, ne_eqb}
use Rattle.std.proofs.Math.Decide.{ℕ_discrete, dec_lt}
use Rattle.std.proofs.Math.ListN.{get_or-eq_default}
use Rattle.seq.specs.Seq.{Bool, cond, List, [], Option, none, some, ℕ, zero, suc, eqb, length, get_or}
use Rattle.seq.specs.Table.{length-table, table_at}
use Rattle.seq.specs.Options.{none_some, some_once}
use Rattle.paper.specs.Pieces.{only, merged}

-- the edge of map i that a piece comes from
abbrev pub source_at : List (Option ℕ) → ℕ → Option ℕ
source_at ss i = get_or ss i none

-- ── from one edge alone ──

module _ (n i k : ℕ) where
  pub length-only : length (only n i k) ≡ n
  length-only = length-table (λ j. cond (eqb j i) (some k) none) n

  pub only-own : i < n → source_at (only n i k) i ≡ some k
  only-own l = table_at (λ j. cond (eqb j i) (some k) none) n i none l ∙ ap (λ (c : Bool). cond c (some k) none) (eq-eqb i i refl)

  only_other : (j : ℕ) → j < n → (j ≡ i → ⊥) → source_at (only n i k) j ≡ none
  only_other j l d = table_at (λ j. cond (eqb j i) (some k) none) n j none l ∙ ap (λ (c : Bool). cond c (some k) none) (ne_eqb j i d)

  -- no other source
  pub only_is : (j r : ℕ) → source_at (only n i k) j ≡ some r → (j ≡ i) × (r ≡ k)
  only_is j r e =
      elim (dec_lt j n) [
        | yes l ↦ elim (ℕ_discrete j i) [
          | yes q ↦ (q, some_once (sym e ∙ ap (λ (x : ℕ). source_at (only n i k) x) q ∙ only-own (omega arith)))
          | no q ↦ absurd (none_some (sym (only_other j l q) ∙ e))
        ]
        | no l ↦ absurd (none_some (sym (get_or-eq_default (only n i k) none (omega (arith, length-only))) ∙ e))
      ]

-- ── merged ──

-- the first, or else the second
abbrev pub or_source : Option ℕ → Option ℕ → Option ℕ
or_source none t = t
or_source (some k) t = some k

pub merged_at : (ss ts : List (Option ℕ)) (i : ℕ) → source_at (merged ss ts) i ≡ or_source (source_at ss i) (source_at ts i)
merged_at [] ts i = refl
merged_at (none ∷ ss) [] zero = refl
merged_at (some k ∷ ss) [] zero = refl
merged_at (s ∷ ss) [] (suc i) = rest (source_at ss i)
  where
    rest : (o : Option ℕ) → o ≡ or_source o none
    rest none = refl
    rest (some k) = refl
merged_at (none ∷ ss) (t ∷ ts) zero = refl
merged_at (none ∷ ss) (t ∷ ts) (suc i) = merged_at ss ts i
merged_at (some k ∷ ss) (t ∷ ts) zero = refl
merged_at (some k ∷ ss) (t ∷ ts) (suc i) = merged_at ss ts i

pub length_merged : (ss ts : List (Option ℕ)) → length ss ≡ length ts → length (merged ss ts) ≡ length ts
length_merged [] ts e = refl
length_merged (s ∷ ss) [] e = e
length_merged (none ∷ ss) (t ∷ ts) e = ap suc (length_merged ss ts (omega arith))
length_merged (some k ∷ ss) (t ∷ ts) e = ap suc (length_merged ss ts (omega arith))

-- a source of the merged is one of the two
pub merged_from : (ss ts : List (Option ℕ)) (i k : ℕ) → source_at (merged ss ts) i ≡ some k → (source_at ss i ≡ some k) ⊎ (source_at ts i ≡ some k)
merged_from ss ts i k e = go (source_at ss i) (source_at ts i) (sym (merged_at ss ts i) ∙ e)
  where
    go : (a b : Option ℕ) → or_source a b ≡ some k → (a ≡ some k) ⊎ (b ≡ some k)
    go none b e = inr e
    go (some j) b e = inl e

-- a place that is filled in one of the two is filled
pub merged_first : (ss ts : List (Option ℕ)) (i k : ℕ) → source_at ss i ≡ some k → source_at (merged ss ts) i ≡ some k
merged_first ss ts i k e = merged_at ss ts i ∙ ap (λ (o : Option ℕ). or_source o (source_at ts i)) e

pub merged-second : (ss ts : List (Option ℕ)) (i k : ℕ) → source_at ts i ≡ some k → (j : ℕ) × (source_at (merged ss ts) i ≡ some j)
merged-second ss ts i k e = go (source_at ss i) refl
  where
    go : (o : Option ℕ) → source_at ss i ≡ o → (j : ℕ) × (source_at (merged ss ts) i ≡ some j)
    go none f = (k, merged_at ss ts i ∙ ap (λ (o : Option ℕ). or_source o (source_at ts i)) f ∙ e)
    go (some j) f = (j, merged_first ss ts i j f)
