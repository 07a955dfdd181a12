-- Loops that fill a table of rows of w cells: `laid n f d` after n turns of a store of the row f i at row i. `each` is the rows' width. Assumes nothing.
use Rattle.std.specs.Prelude.{◌≡◌, ◌≤◌, ◌<◌, ◌*◌, ◌+◌}
use Rattle.std.proofs.Common.{◌∙◌, ap, mul-suc, mul-le-mul_left, arith}
use Rattle.seq.specs.Seq.{List, ℕ, length, get_or, rows, cell, over, laid}
use Rattle.seq.specs.Rows.{length-rows, cell-rows, rows_ext}
use Rattle.seq.specs.Over.{length_over, over_all, over_at, over_past}

module _ {A : Type 0} (w : ℕ) (f : ℕ → List A) (each : (k : ℕ) → length (f k) ≡ w) where
  wide : (n : ℕ) → length (rows f n) ≡ w * n
  wide n = length-rows w f n (λ k l. each k)

  pub length-laid : (n : ℕ) (d : List A) → w * n ≤ length d → length (laid n f d) ≡ length d
  length-laid n d h = length_over (rows f n) d (rw (wide n) h)

  -- all of it stored
  pub laid_all : (d : List A) (n : ℕ) → length d ≤ w * n → laid n f d ≡ rows f n
  laid_all d n h = over_all (rows f n) d (rw (wide n) h)

  -- a cell of a row that is stored, and a cell that is not yet
  pub laid_at : (n i j : ℕ) (d : List A) (z : A) → i < n → j < w → cell z w (laid n f d) i j ≡ get_or (f i) j z
  laid_at n i j d z h l = over_at (rows f n) d (w * i + j) z (rw (wide n) (omega (arith, mul-suc w i, mul-le-mul_left w h))) ∙ cell-rows w f n i j z (λ k q. each k) h l

  pub laid_past : (n i j : ℕ) (d : List A) (z : A) → n ≤ i → cell z w (laid n f d) i j ≡ cell z w d i j
  laid_past n i j d z h = over_past (rows f n) d (w * i + j) z (rw (wide n) (omega (arith, mul-le-mul_left w h)))

-- functions that agree below the bound
pub laid-ext : {A : Type 0} (f g : ℕ → List A) (n : ℕ) (d : List A) → ((k : ℕ) → k < n → f k ≡ g k) → laid n f d ≡ laid n g d
laid-ext {A} f g n d h = ap (λ (l : List A). over l d) (rows_ext f g n h)
