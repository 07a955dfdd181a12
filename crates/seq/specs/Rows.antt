-- `rows f n`: rows end to end. Of rows of w cells each, the length, the cell j of row i, and the row itself; and rows whose widths differ, by
-- their members; rows that are mapped. `each` is the rows' width below the bound. Assumes nothing.
use Rattle.std.specs.Prelude.{◌≡◌, refl, ◌<◌, ◌*◌, ◌∷◌, ◌++◌, ◌+◌}
use Rattle.std.proofs.Common.{sym, ◌∙◌, ap, inl, inr, ⊎_elim, append_assoc, append-nil, add-suc, add-zero, mul-zero, mul-suc, not-suc-le-zero, mul-le-mul_left, add-one, one-add, arith, length-append, get_or-append-add}
use Rattle.std.proofs.lemmas.List.{map-append}
use Rattle.std.proofs.Math.Decide.{dec_lt}
use Rattle.std.proofs.Math.ListN.{get_or-append}
use Rattle.seq.specs.Seq.{List, [], ℕ, zero, suc, length, get_or, table, rows, cell, map, gather}
use Rattle.seq.specs.Terms.{Among}
use Rattle.seq.specs.Members.{among-++, ++-among}

module _ {A : Type 0} where
  module _ (f : ℕ → List A) where
    pub rows_more : (n : ℕ) → rows f (n + 1) ≡ rows f n ++ f n
    rows_more n = rw (add-one n)

    pub rows-+ : (m n : ℕ) → rows f (m + n) ≡ rows f m ++ rows (λ i. f (m + i)) n
    rows-+ m zero = ap (rows f) (add-zero m) ∙ sym (append-nil (rows f m))
    rows-+ m (suc n) = rw (add-suc m n, rows-+ m n) (append_assoc (rows f m) (rows (λ i. f (m + i)) n) (f (m + n)))

    -- ── members ──

    pub among-rows : (n i : ℕ) (z : A) → i < n → Among z (f i) → Among z (rows f n)
    among-rows zero i z h j = absurd (not-suc-le-zero h)
    among-rows (suc n) i z h j =
        ++-among z (rows f n) (f n)
        (elim (dec_lt i n) [ yes s ↦ inl (among-rows n i z s j) | no s ↦ let e : i ≡ n = omega arith in inr (rw e at j) ])

    pub rows-among : (n : ℕ) (z : A) → Among z (rows f n) → (i : ℕ) × (i < n) × Among z (f i)
    rows-among zero z j = absurd j
    rows-among (suc n) z j =
        ⊎_elim (λ k. let r = rows-among n z k in (r.0, omega (arith, r.1), r.2)) (λ k. (n, omega arith, k)) (among-++ z (rows f n) (f n) j)

  -- functions that agree below the bound
  pub rows_ext : (f g : ℕ → List A) (n : ℕ) → ((k : ℕ) → k < n → f k ≡ g k) → rows f n ≡ rows g n
  rows_ext f g zero h = refl
  rows_ext f g (suc n) h = rw (rows_ext f g n (λ k l. h k (omega arith)), h n (omega arith))

  pub rows_none : (n : ℕ) → rows {A = A} (λ i. []) n ≡ []
  rows_none zero = refl
  rows_none (suc n) = ap (λ (r : List A). r ++ []) (rows_none n)

  -- rows of one cell are a table
  pub rows_one : (f : ℕ → A) (n : ℕ) → rows (λ i. f i ∷ []) n ≡ table f n
  rows_one f zero = refl
  rows_one f (suc n) = rw (rows_one f n)

  -- ── rows of w cells ──

  module _ (w : ℕ) (f : ℕ → List A) where
    pub length-rows : (n : ℕ) → ((k : ℕ) → k < n → length (f k) ≡ w) → length (rows f n) ≡ w * n
    length-rows zero each = sym (mul-zero w)
    length-rows (suc n) each = rw (length-append, length-rows n (λ k l. each k (omega arith)), each n (omega arith), mul-suc w n)

    pub cell-rows : (n i j : ℕ) (d : A) → ((k : ℕ) → k < n → length (f k) ≡ w) → i < n → j < w → cell d w (rows f n) i j ≡ get_or (f i) j d
    cell-rows zero i j d each h l = absurd (not-suc-le-zero h)
    cell-rows (suc n) i j d each h l =
        elim (dec_lt i n) [
          | yes s ↦ get_or-append (rows f n) (f n) d (w * i + j) (rw wide (within s)) ∙ cell-rows n i j d (λ k q. each k (omega arith)) s l
          | no s ↦ let e : i ≡ n = omega arith in rw e (ap (λ (m : ℕ). get_or (rows f n ++ f n) (m + j) d) (sym wide) ∙ get_or-append-add (rows f n) (f n) j d)
        ]
      where
        wide : length (rows f n) ≡ w * n
        wide = length-rows n (λ k q. each k (omega arith))

        within : i < n → w * i + j < w * n
        within s = omega (arith, mul-suc w i, mul-le-mul_left w s)

pub map_rows : {A : Type 0} {B : Type 0} (f : A → B) (g : ℕ → List A) (n : ℕ) → map f (rows g n) ≡ rows (λ i. map f (g i)) n
map_rows f g zero = refl
map_rows {A} {B} f g (suc n) = map-append f (rows g n) (g n) ∙ ap (λ (r : List B). r ++ map f (g n)) (map_rows f g n)

-- lists gathered are rows
pub gather-rows : (g : ℕ → List ℕ) (xs : List ℕ) → rows (λ i. g (get_or xs i 0)) (length xs) ≡ gather g xs
gather-rows g [] = refl
gather-rows g (x ∷ xs) =
    ap (rows (λ i. g (get_or (x ∷ xs) i 0))) (sym (one-add (length xs)))
    ∙ rows-+ (λ i. g (get_or (x ∷ xs) i 0)) 1 (length xs)
    ∙ ap (λ (r : List ℕ). g x ++ r)
    (rows_ext (λ i. g (get_or (x ∷ xs) (1 + i) 0)) (λ i. g (get_or xs i 0)) (length xs) (λ k l. ap (λ (j : ℕ). g (get_or (x ∷ xs) j 0)) (one-add k)) ∙ gather-rows g xs)
