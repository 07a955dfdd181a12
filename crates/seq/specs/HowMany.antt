-- How many elements of a list pass a test: no more than there are, of lists end to end, none, and at least one. Assumes nothing.
use Rattle.std.specs.Prelude.{◌≡◌, refl, ◌≤◌, ◌∷◌, ◌++◌, ◌+◌}
use Rattle.std.proofs.Common.{sym, ◌∙◌, ap, inl, inr, le_refl, arith}
use Rattle.seq.specs.Seq.{Bool, true, false, cond, List, [], ℕ, suc, length}
use Rattle.seq.specs.Terms.{Among}
use Rattle.seq.specs.Tests.{never}

abbrev pub how_many {ℓ} : {A : Type ℓ} → (A → Bool) → List A → ℕ
how_many test [] = 0
how_many test (x ∷ xs) = let r = how_many test xs in cond (test x) (suc r) r

module _ {A : Type 0} (test : A → Bool) where
  le_step : (c : Bool) (r n : ℕ) → r ≤ n → cond c (suc r) r ≤ suc n
  le_step true r n h = omega arith
  le_step false r n h = omega arith

  pub many-le : (l : List A) → how_many test l ≤ length l
  many-le [] = le_refl 0
  many-le (x ∷ xs) = le_step (test x) (how_many test xs) (length xs) (many-le xs)

  add_step : (c : Bool) (r s : ℕ) → cond c (suc (r + s)) (r + s) ≡ cond c (suc r) r + s
  add_step true r s = omega arith
  add_step false r s = refl

  pub many-++ : (l k : List A) → how_many test (l ++ k) ≡ how_many test l + how_many test k
  many-++ [] k = omega arith
  many-++ (x ∷ l) k = ap (λ (r : ℕ). cond (test x) (suc r) r) (many-++ l k) ∙ add_step (test x) (how_many test l) (how_many test k)

  -- none passes
  pub many_none : (l : List A) → ((x : A) → Among x l → test x ≡ false) → how_many test l ≡ 0
  many_none [] h = refl
  many_none (x ∷ xs) h = rw (h x (inl refl), many_none xs (λ y i. h y (inr i)))

  some_step : (c : Bool) (r : ℕ) → c ≡ true → 1 ≤ cond c (suc r) r
  some_step true r e = omega arith
  some_step false r e = never e

  more_step : (c : Bool) (r : ℕ) → 1 ≤ r → 1 ≤ cond c (suc r) r
  more_step true r h = omega arith
  more_step false r h = h

  -- one passes
  pub many_some : (l : List A) (x : A) → Among x l → test x ≡ true → 1 ≤ how_many test l
  many_some [] x i e = absurd i
  many_some (y ∷ ys) x (inl q) e = some_step (test y) (how_many test ys) (ap test (sym q) ∙ e)
  many_some (y ∷ ys) x (inr i) e = more_step (test y) (how_many test ys) (many_some ys x i e)
