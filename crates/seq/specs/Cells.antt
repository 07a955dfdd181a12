-- The cells of a table after a run of stores: before the run, in it, past it; and so of a row stored in a table of rows. Assumes nothing.
use Rattle.std.specs.Prelude.{◌≡◌, refl, ◌≤◌, ◌<◌, set, ◌∷◌, ◌+◌, ◌*◌}
use Rattle.std.proofs.Common.{sym, ◌∙◌, ap, add-zero, add-suc, suc-add, mul-suc, mul-le-mul_left, not-suc-le-zero, le_of_suc-le-suc, arith, length-set, get_or-set_same, get_or-set_other}
use Rattle.std.proofs.Math.Decide.{dec_lt}
use Rattle.std.proofs.lemmas.List.{set_comm}
use Rattle.seq.specs.Seq.{List, [], ℕ, zero, suc, length, get_or, cell, sets, row_stored}

module _ {A : Type 0} where
  -- ── a run of stores ──

  pub sets_below : (l : List A) (i : ℕ) (vs : List A) (k : ℕ) (d : A) → k < i → get_or (sets l i vs) k d ≡ get_or l k d
  sets_below l i [] k d h = refl
  sets_below l i (v ∷ vs) k d h = sets_below (set l i v) (suc i) vs k d (omega arith) ∙ get_or-set_other l i k v d (λ e. omega arith)

  pub sets_past : (l : List A) (i : ℕ) (vs : List A) (k : ℕ) (d : A) → i + length vs ≤ k → get_or (sets l i vs) k d ≡ get_or l k d
  sets_past l i [] k d h = refl
  sets_past l i (v ∷ vs) k d h = sets_past (set l i v) (suc i) vs k d (omega arith) ∙ get_or-set_other l i k v d (λ e. omega arith)

  pub sets_in : (l : List A) (i : ℕ) (vs : List A) (k : ℕ) (d : A) → k < length vs → i + length vs ≤ length l → get_or (sets l i vs) (i + k) d ≡ get_or vs k d
  sets_in l i [] k d h r = absurd (not-suc-le-zero h)
  sets_in l i (v ∷ vs) zero d h r =
      ap (λ (j : ℕ). get_or (sets (set l i v) (suc i) vs) j d) (add-zero i) ∙ sets_below (set l i v) (suc i) vs i d (omega arith) ∙ get_or-set_same l i v d (omega arith)
  sets_in l i (v ∷ vs) (suc k) d h r =
      ap (λ (j : ℕ). get_or (sets (set l i v) (suc i) vs) j d) (add-suc i k ∙ sym (suc-add i k))
      ∙ sets_in (set l i v) (suc i) vs k d (le_of_suc-le-suc h) (omega (arith, length-set l i v))

  -- a store before the run can be made first
  pub set_before : (l : List A) (i j : ℕ) (v : A) (vs : List A) → i < j → set (sets l j vs) i v ≡ sets (set l i v) j vs
  set_before l i j v [] h = refl
  set_before l i j v (a ∷ vs) h = set_before (set l j a) i (suc j) v vs (omega arith) ∙ ap (λ (t : List A). sets t (suc j) vs) (set_comm l j i a v (λ e. omega arith))

  -- ── a row stored in a table of rows of w cells ──

  module _ (w : ℕ) (t : List A) (r : ℕ) (vs : List A) (wide : length vs ≡ w) where
    pub row_same : (j : ℕ) (d : A) → j < w → w * r + w ≤ length t → cell d w (row_stored w t r vs) r j ≡ get_or vs j d
    row_same j d h room = sets_in t (w * r) vs j d (omega arith) (omega arith)

    pub row_other : (i j : ℕ) (d : A) → j < w → (i ≡ r → ⊥) → cell d w (row_stored w t r vs) i j ≡ cell d w t i j
    row_other i j d h q =
        elim (dec_lt i r) [
          | yes l ↦ sets_below t (w * r) vs (w * i + j) d (omega (arith, mul-suc w i, mul-le-mul_left w l))
          | no l ↦ let m : r < i = omega arith in sets_past t (w * r) vs (w * i + j) d (omega (arith, mul-suc w r, mul-le-mul_left w m))
        ]
