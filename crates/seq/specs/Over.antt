-- `over xs d`, a list laid over the start of a table, is what every loop has made of its table so far. Laid over it: nothing, one more cell,
-- all of it; then its cells; then lists stored in a table from a place on. `Filled`, `Laid` and `Wiped` say it for a table by a function, for rows, and for zeros. Assumes nothing.
use Rattle.std.specs.Prelude.{◌≡◌, ◌≤◌, ◌<◌, ◌-◌, ◌∷◌, ◌++◌, ◌+◌}
use Rattle.std.proofs.Math.Path.{refl, sym, ap}
use Rattle.std.proofs.Common.{◌∙◌, add-zero, add-suc, suc-add, zero-add, length-append, length-drop, drop_of_length-le, drop-cons}
use mathlib.Core.List.{append_assoc, append-nil}
use Rattle.std.proofs.Math.Numerals.{add-one}
use native.Mathlib.Omega.{arith}
use Rattle.std.proofs.Math.ListN.{set, get_or-append}
use Rattle.std.proofs.Math.Seq.{set_at, sets-eq, take-append_seam, get_or-append-add, get_or-drop}
use Rattle.std.proofs.lemmas.List.Edits.{sets}
use Rattle.seq.specs.Seq.{List, [], ℕ, suc, length, get_or, take, drop, over}

module _ {A : Type 0} where
  -- with nothing laid over it, it is d
  pub over_none : (d : List A) → d ≡ over [] d
  unfolding over
  over_none d = refl

  pub length_over : (xs d : List A) → length xs ≤ length d → length (over xs d) ≡ length d
  unfolding over
  length_over xs d h = rw (length-append, length-drop) (omega arith)

  -- a store at the end of xs: one more cell
  pub over_more : (xs d : List A) (v : A) → length xs < length d → set (over xs d) (length xs) v ≡ over (xs ++ (v ∷ [])) d
  unfolding over
  over_more xs d v h =
      ap (λ (l : List A). set (xs ++ l) (length xs) v) (drop-cons d (length xs) v h)
      ∙ set_at xs (get_or d (length xs) v) (drop (suc (length xs)) d) v (length xs) refl
      ∙ sym (append_assoc xs (v ∷ []) (drop (suc (length xs)) d))
      ∙ rw (length-append xs (v ∷ []), add-one (length xs))

  -- all of it
  pub over_all : (xs d : List A) → length d ≤ length xs → over xs d ≡ xs
  unfolding over
  over_all xs d h = ap (λ (l : List A). xs ++ l) (drop_of_length-le d h) ∙ append-nil xs

  -- what is laid over it is its start
  pub take_over : (xs d : List A) → take (length xs) (over xs d) ≡ xs
  unfolding over
  take_over xs d = take-append_seam xs (drop (length xs) d)

  -- ── cells ──

  pub over_at : (xs d : List A) (i : ℕ) (z : A) → i < length xs → get_or (over xs d) i z ≡ get_or xs i z
  unfolding over
  over_at xs d i z h = get_or-append xs (drop (length xs) d) z i h

  -- past xs they are as they were
  pub over_past : (xs d : List A) (i : ℕ) (z : A) → length xs ≤ i → get_or (over xs d) i z ≡ get_or d i z
  unfolding over
  over_past xs d i z h =
      let e : length xs + (i - length xs) ≡ i = omega arith in
      ap (λ (k : ℕ). get_or (xs ++ drop (length xs) d) k z) (sym e) ∙ get_or-append-add xs (drop (length xs) d) (i - length xs) z
      ∙ get_or-drop (length xs) d (i - length xs) z ∙ ap (λ (k : ℕ). get_or d k z) e

  -- ── stored from a place on ──

  -- what is stored behind something stored is stored with it
  pub stored-behind : (d : List A) (at : ℕ) (xs ys : List A) → sets (sets d at xs) (at + length xs) ys ≡ sets d at (xs ++ ys)
  stored-behind d at [] ys = ap (λ (k : ℕ). sets d k ys) (add-zero at)
  stored-behind d at (x ∷ xs) ys =
      ap (λ (k : ℕ). sets (sets (set d at x) (suc at) xs) k ys) (add-suc at (length xs) ∙ sym (suc-add at (length xs)))
      ∙ stored-behind (set d at x) (suc at) xs ys

  -- stored from the start on it is laid over
  pub stored_first : (d xs : List A) → length xs ≤ length d → sets d 0 xs ≡ over xs d
  unfolding over
  stored_first d xs h = sets-eq xs d 0 (omega arith) ∙ ap (λ (k : ℕ). xs ++ drop k d) (zero-add (length xs))
