-- Loops that fill a table: `filled n f d` after n turns of `t[i] = f(i)`, and `over (select p n) d` after n turns of `if p(i) { t[c] = i; c += 1 }`.
-- Then a table by its cells, and what is asked of a table that another function reads: that its first cells are those of a function (`Holds`). Assumes nothing.
use Rattle.std.specs.Prelude.{◌≡◌, ◌≤◌, ◌<◌, set, ◌∷◌, ◌++◌, ◌+◌}
use Rattle.std.proofs.Common.{sym, ◌∙◌, ap, arith, length-set, ext_get_or, get_or-set_same, get_or-set_other, get_or-take, length-take-le}
use Rattle.std.proofs.Math.Decide.{dec_lt, ℕ_discrete}
use Rattle.seq.specs.Seq.{Bool, true, false, List, [], ℕ, length, get_or, take, table, count, select, over, filled}
use Rattle.seq.specs.Table.{length-table, table_more, table_at, table_is, table-ext}
use Rattle.seq.specs.Select.{length-select, select_more, select-skip}
use Rattle.seq.specs.Over.{over_none, length_over, over_more, over_all, over_at, over_past}

module _ {A : Type 0} (f : ℕ → A) where
  -- with none stored it is d
  pub filled_none : (d : List A) → d ≡ filled 0 f d
  filled_none d = over_none d

  pub length-filled : (n : ℕ) (d : List A) → n ≤ length d → length (filled n f d) ≡ length d
  length-filled n d h = length_over (table f n) d (rw (length-table f n) h)

  -- a store of f n at n makes it the same at n + 1
  pub filled_more : (n : ℕ) (d : List A) (v : A) → n < length d → v ≡ f n → set (filled n f d) n v ≡ filled (n + 1) f d
  filled_more n d v h e =
      ap (λ (k : ℕ). set (filled n f d) k v) (sym (length-table f n)) ∙ over_more (table f n) d v (rw (length-table f n) h)
      ∙ ap (λ (l : List A). over l d) (ap (λ (a : A). table f n ++ (a ∷ [])) e ∙ sym (table_more f n))

  -- all of it stored
  pub filled_all : (d : List A) (n : ℕ) → length d ≤ n → filled n f d ≡ table f n
  filled_all d n h = over_all (table f n) d (rw (length-table f n) h)

  -- a cell that is stored, and one that is not yet
  pub filled_at : (n i : ℕ) (d : List A) (z : A) → i < n → get_or (filled n f d) i z ≡ f i
  filled_at n i d z h = over_at (table f n) d i z (rw (length-table f n) h) ∙ table_at f n i z h

  pub filled_past : (n i : ℕ) (d : List A) (z : A) → n ≤ i → get_or (filled n f d) i z ≡ get_or d i z
  filled_past n i d z h = over_past (table f n) d i z (rw (length-table f n) h)

-- functions that agree below the bound
pub filled-ext : {A : Type 0} (f g : ℕ → A) (n : ℕ) (d : List A) → ((k : ℕ) → k < n → f k ≡ g k) → filled n f d ≡ filled n g d
filled-ext {A} f g n d h = ap (λ (l : List A). over l d) (table-ext f g n h)

-- ── numbers that are selected ──

module _ (p : ℕ → Bool) where
  -- a store of n at the count
  pub selected_more : (n : ℕ) (d : List ℕ) → count p n < length d → p n ≡ true → set (over (select p n) d) (count p n) n ≡ over (select p (n + 1)) d
  selected_more n d h e =
      ap (λ (k : ℕ). set (over (select p n) d) k n) (sym (length-select p n)) ∙ over_more (select p n) d n (rw (length-select p n) h)
      ∙ ap (λ (l : List ℕ). over l d) (sym (select_more p n e))

  pub selected_skip : (n : ℕ) (d : List ℕ) → p n ≡ false → over (select p n) d ≡ over (select p (n + 1)) d
  selected_skip n d e = ap (λ (l : List ℕ). over l d) (sym (select-skip p n e))

  pub length_selected : (n : ℕ) (d : List ℕ) → count p n ≤ length d → length (over (select p n) d) ≡ length d
  length_selected n d h = length_over (select p n) d (rw (length-select p n) h)

-- ── a table by its cells ──

-- what has the cells of f below n, and those of d from n on
pub filled_is : (f : ℕ → ℕ) (n : ℕ) (d t : List ℕ) → n ≤ length d → length t ≡ length d → ((x : ℕ) → x < n → get_or t x 0 ≡ f x) → ((x : ℕ) → n ≤ x → x < length d → get_or t x 0 ≡ get_or d x 0) → t ≡ filled n f d
filled_is f n d t h k low high =
    ext_get_or 0 t (filled n f d) (k ∙ sym (length-filled f n d h))
    (λ x l. elim (dec_lt x n) [
      | yes q ↦ low x q ∙ sym (filled_at f n x d 0 q)
      | no q ↦ high x (omega arith) (omega arith) ∙ sym (filled_past f n x d 0 (omega arith))
    ])

-- a store in one cell
pub filled-set : (f g : ℕ → ℕ) (n j v : ℕ) (d t : List ℕ) → n ≤ length d → t ≡ filled n f d → j < n → v ≡ g j → ((k : ℕ) → k < n → (k ≡ j → ⊥) → f k ≡ g k) → set t j v ≡ filled n g d
filled-set f g n j v d t h e l q same =
    let b : length t ≡ length d = ap length e ∙ length-filled f n d h in
    filled_is g n d (set t j v) h (length-set t j v ∙ b)
    (λ x m. elim (ℕ_discrete x j) [
      | yes s ↦ ap (λ (y : ℕ). get_or (set t j v) y 0) s ∙ get_or-set_same t j v 0 (omega arith) ∙ q ∙ ap g (sym s)
      | no s ↦ get_or-set_other t j x v 0 s ∙ ap (λ (y : List ℕ). get_or y x 0) e ∙ filled_at f n x d 0 m ∙ same x m s
    ])
    (λ x m b. get_or-set_other t j x v 0 (λ s. omega arith) ∙ ap (λ (y : List ℕ). get_or y x 0) e ∙ filled_past f n x d 0 m)

-- filled twice
pub filled-twice : (f g : ℕ → ℕ) (n : ℕ) (d : List ℕ) → n ≤ length d → filled n f (filled n g d) ≡ filled n f d
filled-twice f g n d h =
    let b : length (filled n g d) ≡ length d = length-filled g n d h in
    let k : n ≤ length (filled n g d) = omega arith in
    filled_is f n d (filled n f (filled n g d)) h (length-filled f n (filled n g d) k ∙ b) (λ x l. filled_at f n x (filled n g d) 0 l)
    (λ x l m. filled_past f n x (filled n g d) 0 l ∙ filled_past g n x d 0 l)

-- ── a table that is read ──

-- the first n cells are f 0, f 1, ..
pub record Holds (f : ℕ → ℕ) (t : List ℕ) (n : ℕ) : Type 0 where
  pub long : n ≤ length t
  pub at : (i : ℕ) → i < n → get_or t i 0 ≡ f i

pub filled-holds : (f : ℕ → ℕ) (t d : List ℕ) (n : ℕ) → n ≤ length d → t ≡ filled n f d → Holds f t n
filled-holds f t d n h e =
    record { long = omega (arith, ap length e ∙ length-filled f n d h); at = λ i l. ap (λ (x : List ℕ). get_or x i 0) e ∙ filled_at f n i d 0 l }

pub holds-ext : (f g : ℕ → ℕ) (t : List ℕ) (n : ℕ) → ((i : ℕ) → i < n → f i ≡ g i) → Holds f t n → Holds g t n
holds-ext f g t n e h = record { long = h.long; at = λ i l. h.at i l ∙ e i l }

-- the first n cells as a list
pub front-table : (f : ℕ → ℕ) (t : List ℕ) (n : ℕ) → Holds f t n → take n t ≡ table f n
front-table f t n h = table_is f n (take n t) 0 (length-take-le n t h.long) (λ i l. get_or-take n t i 0 l ∙ h.at i l)
