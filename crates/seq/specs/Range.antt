-- `select` over a range: where the test fails below a and from e on, what is selected of n numbers is what is selected from a to e. Assumes nothing.
use Rattle.std.specs.Prelude.{◌≡◌, refl, ◌≤◌, ◌<◌, ◌∷◌, ◌++◌, ◌+◌, ◌-◌}
use Rattle.std.proofs.Common.{sym, ◌∙◌, ap, add-suc, add-zero, arith}
use Rattle.std.proofs.Math.Decide.{ℕ_discrete}
use Rattle.seq.specs.Seq.{Bool, false, cond, List, [], ℕ, zero, suc, select}

-- those of the m numbers from a on that have p, rising: for i in 0..m { if p(a + i) { out[c] = a + i; c += 1 } }
abbrev pub select_from : (ℕ → Bool) → ℕ → ℕ → List ℕ
select_from p a zero = []
select_from p a (suc m) = let r = select_from p a m in cond (p (a + m)) (r ++ ((a + m) ∷ [])) r

module _ (p : ℕ → Bool) where
  -- none from m on
  pub select-upto : (m n : ℕ) → m ≤ n → ((v : ℕ) → m ≤ v → v < n → p v ≡ false) → select p n ≡ select p m
  select-upto m zero h none = let e : 0 ≡ m = omega arith in ap (select p) e
  select-upto m (suc n) h none =
      elim (ℕ_discrete m (suc n)) [
        | yes e ↦ ap (select p) (sym e)
        | no d ↦ rw (none n (omega arith) (omega arith)) (select-upto m n (omega arith) (λ v l k. none v l (omega arith)))
      ]

  -- none below a
  pub select_none : (a : ℕ) → ((v : ℕ) → v < a → p v ≡ false) → select p a ≡ []
  select_none a none = select-upto 0 a (omega arith) (λ v l k. none v k)

  pub select_past : (a m : ℕ) → ((v : ℕ) → v < a → p v ≡ false) → select p (a + m) ≡ select_from p a m
  select_past a zero none = ap (select p) (add-zero a) ∙ select_none a none
  select_past a (suc m) none = ap (select p) (add-suc a m) ∙ ap (λ (r : List ℕ). cond (p (a + m)) (r ++ ((a + m) ∷ [])) r) (select_past a m none)

  -- none outside the range
  pub select-range : (a e n : ℕ) → a ≤ e → e ≤ n → ((v : ℕ) → v < a → p v ≡ false) → ((v : ℕ) → e ≤ v → v < n → p v ≡ false) → select p n ≡ select_from p a (e - a)
  select-range a e n h l below past =
      select-upto e n l past ∙ ap (select p) (split a e h) ∙ select_past a (e - a) below
    where
      split : (a e : ℕ) → a ≤ e → e ≡ a + (e - a)
      split a e h = omega arith

-- tests that agree in the range
pub select_from-ext : (p q : ℕ → Bool) (a m : ℕ) → ((v : ℕ) → a ≤ v → v < a + m → p v ≡ q v) → select_from p a m ≡ select_from q a m
select_from-ext p q a zero h = refl
select_from-ext p q a (suc m) h = rw (select_from-ext p q a m (λ v l k. h v l (omega arith)), h (a + m) (omega arith) (omega arith))
