-- Rows of w numbers stored one behind the other from a place on, wherever a test holds:    for i in 0..n { if p(i) { store(t, a, f(i)); a += w } }
-- Before turn i the rows that are stored are `rows (λ v. cond (p v) (f v) []) i`. Assumes nothing.
use Rattle.std.specs.Prelude.{◌++◌, ◌+◌, ◌*◌}
use mathlib.Core.Path.{◌≡◌, refl, sym, ◌∙◌, ap}
use mathlib.Core.List.{append-nil}
use Prim.Native.Nat.{◌≤◌, ◌<◌}
use native.Mathlib.Nat.{mul-zero, mul-suc, add-zero}
use native.Mathlib.Numerals.{add-one}
use native.Mathlib.Omega.{arith}
use lib.ListN.{length-append}
use lib.Seq.{length-sets}
use Rattle.seq.specs.Seq.{Bool, true, false, cond, List, [], ℕ, zero, suc, length, count, rows, sets}
use Rattle.seq.specs.Count.{count_more, count-skip}
use Rattle.seq.specs.Rows.{rows_more}
use Rattle.seq.specs.Over.{stored-behind}

-- what is stored behind what was stored from a place on
pub then-behind : (d : List ℕ) (at : ℕ) (xs ys t u : List ℕ) (k : ℕ) → t ≡ sets d at xs → u ≡ sets t k ys → k ≡ at + length xs → u ≡ sets d at (xs ++ ys)
then-behind d at xs ys t u k e g q = g ∙ (λ i. sets (e i) (q i) ys) ∙ stored-behind d at xs ys

-- t is what the loop over n numbers has made of d before number i, with its next row to be stored at a
pub record Appending (w : ℕ) (p : ℕ → Bool) (f : ℕ → List ℕ) (at n : ℕ) (d t : List ℕ) (a i : ℕ) : Type 0 where
  pub room : at + w * count p n ≤ length d
  pub within : i ≤ n
  pub kept : length t ≡ length d
  pub place : a ≡ at + w * count p i
  pub is : t ≡ sets d at (rows (λ v. cond (p v) (f v) []) i)

module _ (w : ℕ) (p : ℕ → Bool) (f : ℕ → List ℕ) (each : (k : ℕ) → length (f k) ≡ w) where
  abbrev taken : ℕ → List ℕ
  taken v = cond (p v) (f v) []

  long_step : (r x : List ℕ) (m : ℕ) (c : Bool) → length r ≡ w * m → length x ≡ w → length (r ++ cond c x []) ≡ w * cond c (suc m) m
  long_step r x m true e g = length-append r x ∙ (λ i. e i + g i) ∙ sym (mul-suc w m)
  long_step r x m false e g = ap length (append-nil r) ∙ e

  pub append_long : (n : ℕ) → length (rows (λ v. cond (p v) (f v) []) n) ≡ w * count p n
  append_long zero = sym (mul-zero w)
  append_long (suc n) = long_step (rows taken n) (f n) (count p n) (p n) (append_long n) (each n)

module _ {w : ℕ} {p : ℕ → Bool} {f : ℕ → List ℕ} {at n : ℕ} {d : List ℕ} where
  pub append_starts : at + w * count p n ≤ length d → Appending w p f at n d d at 0
  append_starts h = record { room = h; within = omega arith; kept = refl; place = sym (add-zero at) ∙ ap (λ (k : ℕ). at + k) (sym (mul-zero w)); is = refl }

  module _ {t : List ℕ} {a i : ℕ} (r : Appending w p f at n d t a i) where
    pub append_takes : {u : List ℕ} {b : ℕ} → ((k : ℕ) → length (f k) ≡ w) → i < n → p i ≡ true → u ≡ sets t a (f i) → b ≡ a + w → Appending w p f at n d u b (i + 1)
    append_takes {u} {b} each l e g h =
        let more : w * count p (i + 1) ≡ w * count p i + w = ap (λ (k : ℕ). w * k) (count_more p i e ∙ add-one (count p i)) ∙ mul-suc w (count p i) in
        let one : rows (λ v. cond (p v) (f v) []) (i + 1) ≡ rows (λ v. cond (p v) (f v) []) i ++ f i = rows_more (λ v. cond (p v) (f v) []) i ∙ ap (λ (c : Bool). rows (λ v. cond (p v) (f v) []) i ++ cond c (f i) []) e in
        record {
          room = r.room;
          within = omega arith;
          kept = ap length g ∙ length-sets t a (f i) ∙ r.kept;
          place = omega (arith, h, r.place, more);
          is = then-behind d at (rows (λ v. cond (p v) (f v) []) i) (f i) t u a r.is g (r.place ∙ ap (λ (k : ℕ). at + k) (sym (append_long w p f each i))) ∙ ap (sets d at) (sym one);
        }

    pub append_leaves : {u : List ℕ} {b : ℕ} → i < n → p i ≡ false → u ≡ t → b ≡ a → Appending w p f at n d u b (i + 1)
    append_leaves {u} {b} l e g h =
        let same : rows (λ v. cond (p v) (f v) []) (i + 1) ≡ rows (λ v. cond (p v) (f v) []) i = rows_more (λ v. cond (p v) (f v) []) i ∙ ap (λ (c : Bool). rows (λ v. cond (p v) (f v) []) i ++ cond c (f i) []) e ∙ append-nil (rows (λ v. cond (p v) (f v) []) i) in
        record {
          room = r.room;
          within = omega arith;
          kept = ap length g ∙ r.kept;
          place = h ∙ r.place ∙ ap (λ (k : ℕ). at + w * k) (sym (count-skip p i e));
          is = g ∙ r.is ∙ ap (sets d at) (sym same);
        }

    pub append_ends : n ≤ i → t ≡ sets d at (rows (λ v. cond (p v) (f v) []) n)
    append_ends l = let e : i ≡ n = omega (arith, r.within) in r.is ∙ ap (λ (k : ℕ). sets d at (rows (λ v. cond (p v) (f v) []) k)) e

    pub append_place : n ≤ i → a ≡ at + w * count p n
    append_place l = let e : i ≡ n = omega (arith, r.within) in r.place ∙ ap (λ (k : ℕ). at + w * count p k) e
