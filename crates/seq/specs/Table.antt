-- `table f n`: its length, its cells, and that it is determined by them. Assumes nothing.
use Rattle.std.specs.Prelude.{◌≡◌, refl, ◌<◌, ◌∷◌, ◌++◌, ◌+◌}
use Rattle.std.proofs.Common.{sym, ◌∙◌, ap, ⊎_elim, append_assoc, append-nil, add-suc, add-zero, eq-or-lt_of_le, le_of_suc-le-suc, add-one, arith, length-append, ext_get_or}
use Rattle.std.proofs.lemmas.List.{map-append, replicate-append-replicate, get_or_at}
use Rattle.std.proofs.Math.ListN.{get_or-append}
use Rattle.seq.specs.Seq.{List, [], map, ℕ, zero, suc, length, get_or, replicate, table}
use Rattle.seq.specs.Terms.{Among}
use Rattle.seq.specs.Members.{at_among, among_at}

module _ {A : Type 0} where
  module _ (f : ℕ → A) where
    pub length-table : (n : ℕ) → length (table f n) ≡ n
    length-table zero = refl
    length-table (suc n) = length-append (table f n) (f n ∷ []) ∙ ap (λ (k : ℕ). k + 1) (length-table n) ∙ add-one n

    pub table_more : (n : ℕ) → table f (n + 1) ≡ table f n ++ (f n ∷ [])
    table_more n = rw (add-one n)

    pub table_at : (n i : ℕ) (d : A) → i < n → get_or (table f n) i d ≡ f i
    table_at zero i d h = absurd (omega arith)
    table_at (suc n) i d h =
        ⊎_elim
        (λ (e : i ≡ n). rw e (get_or_at (table f n) (f n) [] d n (length-table n)))
        (λ (l : i < n). get_or-append (table f n) (f n ∷ []) d i (rw (length-table n) l) ∙ table_at n i d l)
        (eq-or-lt_of_le (le_of_suc-le-suc h))

    pub table-+ : (m n : ℕ) → table f (m + n) ≡ table f m ++ table (λ i. f (m + i)) n
    table-+ m zero = ap (table f) (add-zero m) ∙ sym (append-nil (table f m))
    table-+ m (suc n) = rw (add-suc m n, table-+ m n) (append_assoc (table f m) (table (λ i. f (m + i)) n) (f (m + n) ∷ []))

    -- ── members ──

    pub among-table : (n i : ℕ) → i < n → Among (f i) (table f n)
    among-table n i h = rw (table_at n i (f i) h) at (at_among (table f n) i (f i) (rw (length-table n) h))

    pub table-among : (n : ℕ) (z : A) → Among z (table f n) → (i : ℕ) × (i < n) × (f i ≡ z)
    table-among n z i =
        let r = among_at z (table f n) z i in
        let l : r.0 < n = omega (arith, r.1, length-table n) in
        (r.0, l, sym (table_at n r.0 z l) ∙ r.2)

  -- functions that agree below the bound
  pub table-ext : (f g : ℕ → A) (n : ℕ) → ((k : ℕ) → k < n → f k ≡ g k) → table f n ≡ table g n
  table-ext f g zero h = refl
  table-ext f g (suc n) h = rw (table-ext f g n (λ k l. h k (omega arith)), h n (omega arith))

  pub table_const : (a : A) (n : ℕ) → table (λ i. a) n ≡ replicate n a
  table_const a zero = refl
  table_const a (suc n) = rw (table_const a n, replicate-append-replicate n 1 a, add-one)

  -- a list is the table of its cells
  pub table_of : (l : List A) (d : A) → table (λ i. get_or l i d) (length l) ≡ l
  table_of l d =
      ext_get_or d (table (λ i. get_or l i d) (length l)) l (length-table (λ i. get_or l i d) (length l))
      (λ i h. table_at (λ i. get_or l i d) (length l) i d (rw (length-table (λ i. get_or l i d) (length l)) at h))

  -- what has the length and the cells is the table
  pub table_is : (f : ℕ → A) (n : ℕ) (l : List A) (d : A) → length l ≡ n → ((i : ℕ) → i < n → get_or l i d ≡ f i) → l ≡ table f n
  table_is f n l d e h = sym (table_of l d) ∙ rw e (table-ext (λ i. get_or l i d) f n h)

pub table-map : {A : Type 0} {B : Type 0} (g : A → B) (f : ℕ → A) (n : ℕ) → map g (table f n) ≡ table (λ i. g (f i)) n
table-map g f zero = refl
table-map g f (suc n) = map-append g (table f n) (f n ∷ []) ∙ rw (table-map g f n)
