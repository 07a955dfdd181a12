-- Rows of w cells stored one after the other from a place on (`Storing`), or from the start of the table on (`Laying`, which is Storing at 0):
--     for i in 0..n { store(t, at + w * i, f(i)) }
-- Before turn i the rows f 0, f 1, .. that are stored are `rows f i`. `each` is the rows' width. Assumes nothing.
use Rattle.std.specs.Prelude.{◌≡◌, refl, ◌≤◌, ◌<◌, ◌+◌, ◌*◌}
use Rattle.std.proofs.Common.{sym, ◌∙◌, ap, zero-add, arith}
use Rattle.std.proofs.Math.Seq.{length-sets}
use Rattle.seq.specs.Seq.{List, ℕ, length, sets, rows, laid, padded, row_stored, wiped}
use Rattle.seq.specs.Over.{stored-behind, stored_first}
use Rattle.seq.specs.Rows.{length-rows, rows_more}
use Rattle.seq.specs.Wiped.{stored-wiped}

-- t is what the loop has made of d before turn i
pub record Storing {A : Type 0} (w : ℕ) (f : ℕ → List A) (at n : ℕ) (d t : List A) (i : ℕ) : Type 0 where
  pub room : at + w * n ≤ length d
  pub within : i ≤ n
  pub kept : length t ≡ length d
  pub is : t ≡ sets d at (rows f i)

abbrev pub Laying : {A : Type 0} → ℕ → (ℕ → List A) → ℕ → List A → List A → ℕ → Type 0
Laying w f n d t i = Storing w f 0 n d t i

module _ {A : Type 0} {w : ℕ} {f : ℕ → List A} where
  module _ {at n : ℕ} {d : List A} where
    pub store_starts : at + w * n ≤ length d → Storing w f at n d d 0
    store_starts h = record { room = h; within = omega arith; kept = refl; is = refl }

    pub store_turns : {t : List A} {i : ℕ} → Storing w f at n d t i → {u : List A} → ((k : ℕ) → length (f k) ≡ w) → i < n → u ≡ sets t (at + w * i) (f i) → Storing w f at n d u (i + 1)
    store_turns {t} {i} r {u} each l e =
        record {
          room = r.room;
          within = omega arith;
          kept = ap length e ∙ length-sets t (at + w * i) (f i) ∙ r.kept;
          is = e ∙ ap (λ (x : List A). sets x (at + w * i) (f i)) r.is
              ∙ ap (λ (k : ℕ). sets (sets d at (rows f i)) (at + k) (f i)) (sym (length-rows w f i (λ k m. each k)))
              ∙ stored-behind d at (rows f i) (f i) ∙ ap (sets d at) (sym (rows_more f i));
        }

    pub store_ends : {t : List A} {i : ℕ} → Storing w f at n d t i → n ≤ i → t ≡ sets d at (rows f n)
    store_ends {t} {i} r l = let e : i ≡ n = omega (arith, r.within) in r.is ∙ ap (λ (k : ℕ). sets d at (rows f k)) e

  -- ── from the start on ──

  module _ {n : ℕ} {d : List A} where
    pub lay_starts : w * n ≤ length d → Laying w f n d d 0
    lay_starts h = store_starts (omega arith)

    pub lay_turns : {t : List A} {i : ℕ} → Laying w f n d t i → {u vs : List A} → ((k : ℕ) → length (f k) ≡ w) → i < n → u ≡ row_stored w t i vs → vs ≡ f i → Laying w f n d u (i + 1)
    lay_turns {t} {i} r each l e g = store_turns r each l (e ∙ ap (row_stored w t i) g ∙ ap (λ (k : ℕ). sets t k (f i)) (sym (zero-add (w * i))))

    pub lay_ends : {t : List A} {i : ℕ} → Laying w f n d t i → ((k : ℕ) → length (f k) ≡ w) → n ≤ i → t ≡ laid n f d
    lay_ends r each l = store_ends r l ∙ stored_first d (rows f n) (omega (arith, r.room, length-rows w f n (λ j m. each j)))

-- wiped past the rows it is the rows and zeros
pub laid-wiped : {A : Type 0} (z : A) (w : ℕ) (f : ℕ → List A) → ((j : ℕ) → length (f j) ≡ w) → (n : ℕ) (d : List A) {k : ℕ} {t u : List A} → w * n ≤ length d → t ≡ sets d 0 (rows f n) → u ≡ wiped z k t → k ≡ w * n
    → u ≡ padded z (length d) (rows f n)
laid-wiped z w f each n d {k} {t} {u} h e g q =
    let long : length (rows f n) ≡ w * n = length-rows w f n (λ j m. each j) in
    stored-wiped z d (rows f n) t u k (rw long h) e g (q ∙ sym long)
