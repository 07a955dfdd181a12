-- Sums of integers over a list: congruence, linearity, the exchange of two sums, a sum in which one index counts, a count as a sum, a sum over the
-- numbers below n in another order, and by pairs. By induction on the list.
-- Assumes nothing.
use Rattle.std.specs.Prelude.{◌≡◌, ◌≤◌, ◌<◌, ◌∷◌, ◌++◌, ◌+◌, ◌*◌, ◌+ℤ◌, ◌-ℤ◌, ◌*ℤ◌}
use Rattle.std.proofs.Math.Path.{refl, sym, ap}
use Rattle.std.proofs.Common.{◌∙◌, inl, inr, not-suc-le-zero, arith, eqb-true, ne_eqb, one-add}
use Rattle.std.proofs.Math.Decide.{dec_lt}
use Rattle.std.proofs.lemmas.Bool.{eqb-false}
use Rattle.std.proofs.Math.IntN.{+ℤ_idl, +ℤ_idr, +ℤ_assoc, pos-+ℤ-pos, *ℤ-zero, zero-*ℤ}
use Rattle.exact.specs.Ring.{+ℤ-swap4, *ℤ-distl, one-*ℤ}
use Rattle.exact.specs.Solve.{ring, reify}
use Rattle.seq.specs.Seq.{Bool, true, false, cond, List, [], ℕ, zero, suc, eqb, count, ℤ, pos}
use Rattle.seq.specs.Terms.{Among, sum, upto, ind}

pub upto-< : {i : ℕ} (n : ℕ) → Among i (upto n) → i < n
unfolding upto
upto-< {i} zero m = absurd m
upto-< {i} (suc n) (inl e) = omega arith
upto-< {i} (suc n) (inr m) = omega (arith, upto-< n m)

pub upto-mem : (n i : ℕ) → i < n → Among i (upto n)
unfolding upto
upto-mem zero i h = absurd (not-suc-le-zero h)
upto-mem (suc n) i h = elim (dec_lt i n) [ yes s ↦ inr (upto-mem n i s) | no s ↦ inl (omega arith) ]

module _ {A : Type 0} where
  pub sum-ext : (xs : List A) {f g : A → ℤ} → ((x : A) → Among x xs → f x ≡ g x) → sum xs f ≡ sum xs g
  unfolding sum
  sum-ext [] h = refl
  sum-ext (x ∷ xs) {f} {g} h = λ i. h x (inl refl) i +ℤ sum-ext xs {f = f} {g = g} (λ y m. h y (inr m)) i

  pub sum-zero : (xs : List A) → sum xs (λ x. pos 0) ≡ pos 0
  unfolding sum
  sum-zero [] = refl
  sum-zero (x ∷ xs) = ap (λ (t : ℤ). pos 0 +ℤ t) (sum-zero xs)

  pub sum_none : (xs : List A) {f : A → ℤ} → ((x : A) → Among x xs → f x ≡ pos 0) → sum xs f ≡ pos 0
  sum_none xs h = sum-ext xs h ∙ sum-zero xs

  pub sum-+ : (xs : List A) (f g : A → ℤ) → sum xs (λ x. f x +ℤ g x) ≡ sum xs f +ℤ sum xs g
  unfolding sum
  sum-+ [] f g = refl
  sum-+ (x ∷ xs) f g = ap (λ (t : ℤ). (f x +ℤ g x) +ℤ t) (sum-+ xs f g) ∙ +ℤ-swap4 (f x) (g x) (sum xs f) (sum xs g)

  pub sum-* : (xs : List A) (c : ℤ) (f : A → ℤ) → sum xs (λ x. c *ℤ f x) ≡ c *ℤ sum xs f
  unfolding sum
  sum-* [] c f = sym (*ℤ-zero c)
  sum-* (x ∷ xs) c f = ap (λ (t : ℤ). c *ℤ f x +ℤ t) (sum-* xs c f) ∙ sym (*ℤ-distl c (f x) (sum xs f))

  pub sum-- : (xs : List A) (f g : A → ℤ) → sum xs (λ x. f x -ℤ g x) ≡ sum xs f -ℤ sum xs g
  unfolding sum
  sum-- [] f g = refl
  sum-- (x ∷ xs) f g = ap (λ (t : ℤ). (f x -ℤ g x) +ℤ t) (sum-- xs f g) ∙ step (f x) (g x) (sum xs f) (sum xs g)
    where
      step : (a b c d : ℤ) → (a -ℤ b) +ℤ (c -ℤ d) ≡ (a +ℤ c) -ℤ (b +ℤ d)
      step a b c d = ring (a ∷ b ∷ c ∷ d ∷ []) (search reify depth 20) tt

  pub sum-++ : (xs ys : List A) (f : A → ℤ) → sum (xs ++ ys) f ≡ sum xs f +ℤ sum ys f
  unfolding sum
  sum-++ [] ys f = sym (+ℤ_idl (sum ys f))
  sum-++ (x ∷ xs) ys f = ap (λ (t : ℤ). f x +ℤ t) (sum-++ xs ys f) ∙ sym (+ℤ_assoc (f x) (sum xs f) (sum ys f))

-- the exchange of two sums
pub exchange : {A B : Type 0} (xs : List A) (ys : List B) (f : A → B → ℤ) → sum xs (λ x. sum ys (λ y. f x y)) ≡ sum ys (λ y. sum xs (λ x. f x y))
unfolding sum
exchange [] ys f = sym (sum-zero ys)
exchange (x ∷ xs) ys f = ap (λ (t : ℤ). sum ys (λ y. f x y) +ℤ t) (exchange xs ys f) ∙ sym (sum-+ ys (λ y. f x y) (λ y. sum xs (λ x. f x y)))

-- ── a sum in which one index counts ──

delta_none : (n k : ℕ) (g : ℕ → ℤ) → n ≤ k → sum (upto n) (λ i. ind (eqb i k) *ℤ g i) ≡ pos 0
delta_none n k g h = sum-ext (upto n) (λ i m. ap (λ (b : Bool). ind b *ℤ g i) (ne_eqb i k (below i (upto-< n m))) ∙ zero-*ℤ (g i)) ∙ sum-zero (upto n)
  where
    below : (i : ℕ) → i < n → i ≡ k → ⊥
    below i l e = omega arith

delta-step : (n k : ℕ) (g : ℕ → ℤ) (t : ℤ) (b : Bool) → eqb n k ≡ b → (n ≡ k → t ≡ pos 0) → ((n ≡ k → ⊥) → t ≡ g k) → ind b *ℤ g n +ℤ t ≡ g k
delta-step n k g t true e f h = let q : n ≡ k = eqb-true n k e in (λ i. pos 1 *ℤ g (q i) +ℤ f q i) ∙ +ℤ_idr (pos 1 *ℤ g k) ∙ one-*ℤ (g k)
delta-step n k g t false e f h = (λ i. zero-*ℤ (g n) i +ℤ t) ∙ +ℤ_idl t ∙ h (eqb-false n k e)

pub delta : (n k : ℕ) (g : ℕ → ℤ) → k < n → sum (upto n) (λ i. ind (eqb i k) *ℤ g i) ≡ g k
unfolding sum upto
delta zero k g h = absurd (not-suc-le-zero h)
delta (suc n) k g h =
    delta-step n k g (sum (upto n) (λ i. ind (eqb i k) *ℤ g i)) (eqb n k) refl (λ q. delta_none n k g (omega arith)) (λ q. delta n k g (omega arith))

-- ── a count, and a sum in another order ──

count-step : (r : ℕ) (c : Bool) → ind c +ℤ pos r ≡ pos (cond c (suc r) r)
count-step r true = pos-+ℤ-pos 1 r ∙ ap pos (one-add r)
count-step r false = +ℤ_idl (pos r)

-- a count is the sum of its tests
pub sum-count : (p : ℕ → Bool) (n : ℕ) → sum (upto n) (λ i. ind (p i)) ≡ pos (count p n)
unfolding sum upto
sum-count p zero = refl
sum-count p (suc n) = ap (λ (t : ℤ). ind (p n) +ℤ t) (sum-count p n) ∙ count-step (count p n) (p n)

-- ── by pairs ──

pub sum-pairs : (m : ℕ) (f : ℕ → ℤ) → sum (upto (2 * m)) f ≡ sum (upto m) (λ k. f (2 * k) +ℤ f (2 * k + 1))
unfolding sum upto
sum-pairs zero f = refl
sum-pairs (suc m) f =
    ap (λ (k : ℕ). sum (upto k) f) two ∙ (λ t. f (one t) +ℤ (f (2 * m) +ℤ sum-pairs m f t)) ∙ step (f (2 * m)) (f (2 * m + 1)) (sum (upto m) (λ k. f (2 * k) +ℤ f (2 * k + 1)))
  where
    two : 2 * suc m ≡ suc (suc (2 * m))
    two = omega arith

    one : suc (2 * m) ≡ 2 * m + 1
    one = omega arith

    step : (a b c : ℤ) → b +ℤ (a +ℤ c) ≡ (a +ℤ b) +ℤ c
    step a b c = ring (a ∷ b ∷ c ∷ []) (search reify depth 20) tt
