-- What a loop asks of `best`, turn by turn: a number that is no candidate, the first candidate, a better one, one that is not. And candidates and
-- comparisons that agree below the bound have the same best. Assumes nothing.
use Rattle.std.specs.Prelude.{◌≡◌, refl, ◌<◌, ◌+◌}
use Rattle.std.proofs.Common.{◌∙◌, ap, add-one, arith}
use Rattle.seq.specs.Seq.{Bool, true, false, cond, Option, none, some, ℕ, zero, suc, best, improve}
use Rattle.seq.specs.Best.{best_has}

module _ (p : ℕ → Bool) (b : ℕ → ℕ → Bool) where
  pub best-skip : (n : ℕ) → p n ≡ false → best p b (n + 1) ≡ best p b n
  best-skip n e = rw (add-one n, e)

  pub best_first : (n : ℕ) → best p b n ≡ none → p n ≡ true → best p b (n + 1) ≡ some n
  best_first n h e = rw (add-one n, e, h)

  pub best-better : (n r : ℕ) → best p b n ≡ some r → p n ≡ true → b n r ≡ true → best p b (n + 1) ≡ some n
  best-better n r h e f = rw (add-one n, e, h, f)

  pub best-stays : (n r : ℕ) → best p b n ≡ some r → p n ≡ true → b n r ≡ false → best p b (n + 1) ≡ some r
  best-stays n r h e f = rw (add-one n, e, h, f)

module _ (p q : ℕ → Bool) (b c : ℕ → ℕ → Bool) where
  improve-ext : (n : ℕ) (o : Option ℕ) → ((r : ℕ) → o ≡ some r → b n r ≡ c n r) → improve b n o ≡ improve c n o
  improve-ext n none h = refl
  improve-ext n (some r) h = rw (h r refl)

  pub best-ext : (n : ℕ) → ((k : ℕ) → k < n → p k ≡ q k) → ((j k : ℕ) → j < n → k < n → b j k ≡ c j k) → best p b n ≡ best q c n
  best-ext zero h g = refl
  best-ext (suc n) h g =
      let e : best p b n ≡ best q c n = best-ext n (λ k l. h k (omega arith)) (λ j k l m. g j k (omega arith) (omega arith)) in
      let i : improve b n (best p b n) ≡ improve c n (best p b n) = improve-ext n (best p b n) (λ r s. let w = best_has p b n r s in g n r (omega arith) (omega (arith, w.below))) in
      ap (λ (t : Bool). cond t (improve b n (best p b n)) (best p b n)) (h n (omega arith))
      ∙ ap (λ (o : Option ℕ). cond (q n) o (best p b n)) i
      ∙ ap (λ (o : Option ℕ). cond (q n) (improve c n o) o) e
