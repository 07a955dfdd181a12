-- A list with one more element put at place a: its length and cells; mapped, with a list after it, all one value; and tables and rows by functions that agree but for the
-- place a. Assumes nothing.
use Rattle.std.specs.Prelude.{◌≡◌, refl, ◌<◌, ◌≤◌, ◌-◌, ◌∷◌, ◌++◌}
use Rattle.std.proofs.Common.{sym, ◌∙◌, ap, append-nil, not-suc-le-zero, le_of_suc-le-suc, arith}
use Rattle.std.proofs.Math.Decide.{dec_lt, ℕ_discrete}
use Rattle.seq.specs.Seq.{List, [], map, ℕ, zero, suc, length, get_or, replicate, rows, table}
use Rattle.seq.specs.Rows.{rows_ext}
use Rattle.seq.specs.Table.{length-table, table_at, table_is}

-- x at place a; past the list's end it is not put
abbrev pub put : {A : Type 0} → ℕ → A → List A → List A
put zero x l = x ∷ l
put (suc a) x [] = []
put (suc a) x (y ∷ l) = y ∷ put a x l

module _ {A : Type 0} where
  pub length-put : (a : ℕ) (x : A) (l : List A) → a ≤ length l → length (put a x l) ≡ suc (length l)
  length-put zero x l h = refl
  length-put (suc a) x [] h = absurd (not-suc-le-zero h)
  length-put (suc a) x (y ∷ l) h = ap suc (length-put a x l (le_of_suc-le-suc h))

  -- ── cells ──

  pub put_before : (a : ℕ) (x : A) (l : List A) (d : A) (i : ℕ) → i < a → get_or (put a x l) i d ≡ get_or l i d
  put_before zero x l d i h = absurd (not-suc-le-zero h)
  put_before (suc a) x [] d i h = refl
  put_before (suc a) x (y ∷ l) d zero h = refl
  put_before (suc a) x (y ∷ l) d (suc i) h = put_before a x l d i (le_of_suc-le-suc h)

  pub put-own : (a : ℕ) (x : A) (l : List A) (d : A) → a ≤ length l → get_or (put a x l) a d ≡ x
  put-own zero x l d h = refl
  put-own (suc a) x [] d h = absurd (not-suc-le-zero h)
  put-own (suc a) x (y ∷ l) d h = put-own a x l d (le_of_suc-le-suc h)

  -- the default
  pub put-default : (a : ℕ) (l : List A) (d : A) → get_or (put a d l) a d ≡ d
  put-default zero l d = refl
  put-default (suc a) [] d = refl
  put-default (suc a) (y ∷ l) d = put-default a l d

  pub put_past : (a : ℕ) (x : A) (l : List A) (d : A) (i : ℕ) → a ≤ i → get_or (put a x l) (suc i) d ≡ get_or l i d
  put_past zero x l d i h = refl
  put_past (suc a) x [] d i h = refl
  put_past (suc a) x (y ∷ l) d zero h = absurd (not-suc-le-zero h)
  put_past (suc a) x (y ∷ l) d (suc i) h = put_past a x l d i (le_of_suc-le-suc h)

  -- ── made of other lists ──

  pub put-++ : (a : ℕ) (x : A) (l k : List A) → a ≤ length l → put a x l ++ k ≡ put a x (l ++ k)
  put-++ zero x l k h = refl
  put-++ (suc a) x [] k h = absurd (not-suc-le-zero h)
  put-++ (suc a) x (y ∷ l) k h = ap (λ (r : List A). y ∷ r) (put-++ a x l k (le_of_suc-le-suc h))

  pub put-replicate : (a n : ℕ) (x : A) → a ≤ n → put a x (replicate n x) ≡ replicate (suc n) x
  put-replicate zero n x h = refl
  put-replicate (suc a) zero x h = absurd (not-suc-le-zero h)
  put-replicate (suc a) (suc n) x h = ap (λ (r : List A). x ∷ r) (put-replicate a n x (le_of_suc-le-suc h))

  pub put-end : (l : List A) (x : A) → put (length l) x l ≡ l ++ (x ∷ [])
  put-end [] x = refl
  put-end (y ∷ l) x = ap (λ (r : List A). y ∷ r) (put-end l x)

  -- ── tables and rows ──

  module _ (a n : ℕ) (h : a ≤ n) where
    pub table-put : (f f' : ℕ → A) → ((i : ℕ) → i < a → f' i ≡ f i) → ((i : ℕ) → a ≤ i → f' (suc i) ≡ f i) → put a (f' a) (table f n) ≡ table f' (suc n)
    table-put f f' below past = table_is f' (suc n) (put a (f' a) (table f n)) (f' a) (length-put a (f' a) (table f n) (omega (arith, length-table f n)) ∙ ap suc (length-table f n)) at
      where
        later : (i : ℕ) → i < suc n → (i < a → ⊥) → (i ≡ a → ⊥) → get_or (put a (f' a) (table f n)) i (f' a) ≡ f' i
        later zero l q r = absurd (omega arith)
        later (suc i) l q r = put_past a (f' a) (table f n) (f' a) i (omega arith) ∙ table_at f n i (f' a) (omega arith) ∙ sym (past i (omega arith))

        at : (i : ℕ) → i < suc n → get_or (put a (f' a) (table f n)) i (f' a) ≡ f' i
        at i l =
            elim (dec_lt i a) [
              | yes q ↦ put_before a (f' a) (table f n) (f' a) i q ∙ table_at f n i (f' a) (omega arith) ∙ sym (below i q)
              | no q ↦ elim (ℕ_discrete i a) [
                | yes r ↦ ap (λ (j : ℕ). get_or (put a (f' a) (table f n)) j (f' a)) r ∙ put-own a (f' a) (table f n) (f' a) (omega (arith, length-table f n)) ∙ ap f' (sym r)
                | no r ↦ later i l q r
              ]
            ]

  -- an empty row more
  module _ (a : ℕ) (f f' : ℕ → List A) (below : (i : ℕ) → i < a → f' i ≡ f i) (own : f' a ≡ []) (past : (i : ℕ) → a ≤ i → f' (suc i) ≡ f i) where
    rows_end : (n : ℕ) → a ≡ n → rows f' (suc n) ≡ rows f n
    rows_end n q = ap (λ (r : List A). rows f' n ++ r) (ap f' (sym q) ∙ own) ∙ append-nil (rows f' n) ∙ rows_ext f' f n (λ i l. below i (omega arith))

    pub rows-put : (n : ℕ) → a ≤ n → rows f' (suc n) ≡ rows f n
    rows-put zero h = rows_end 0 (omega arith)
    rows-put (suc n) h = elim (ℕ_discrete a (suc n)) [ yes q ↦ rows_end (suc n) q | no q ↦ (λ i. rows-put n (omega arith) i ++ past n (omega arith) i) ]

module _ {A : Type 0} {B : Type 0} where
  pub put_map : (f : A → B) (a : ℕ) (x : A) (l : List A) → map f (put a x l) ≡ put a (f x) (map f l)
  put_map f zero x l = refl
  put_map f (suc a) x [] = refl
  put_map f (suc a) x (y ∷ l) = ap (λ (r : List B). f y ∷ r) (put_map f a x l)
