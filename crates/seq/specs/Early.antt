-- The best of n candidates, taken in an order f and only up to the first place at which a test says stop: where no candidate comes from there on, it is the best of all (`early-best`). For a comparison in which
-- any two candidates differ, so that the order does not matter; in the order of their numbers any comparison will do (`prefix_best`). Assumes nothing.
use Rattle.std.specs.Prelude.{◌≡◌, ◌≤◌, ◌<◌, ◌+◌, ◌-◌}
use Rattle.std.proofs.Common.{sym, ◌∙◌, ap, add-zero, add-suc, add-one, arith}
use Rattle.seq.specs.Seq.{Bool, false, ℕ, zero, suc, best}
use Rattle.seq.specs.BestLoop.{best-skip}

-- ── in the order of their numbers ──

module _ (A : ℕ → Bool) (B : ℕ → ℕ → Bool) where
  longer : (r m : ℕ) → ((j : ℕ) → r ≤ j → j < r + m → A j ≡ false) → best A B (r + m) ≡ best A B r
  longer r zero rest = ap (best A B) (add-zero r)
  longer r (suc m) rest = ap (best A B) (add-suc r m ∙ sym (add-one (r + m))) ∙ best-skip A B (r + m) (rest (r + m) (omega arith) (omega arith)) ∙ longer r m (λ j l h. rest j l (omega arith))

  pub prefix_best : (r n : ℕ) → r ≤ n → ((j : ℕ) → r ≤ j → j < n → A j ≡ false) → best A B r ≡ best A B n
  prefix_best r n l rest = let e : r + (n - r) ≡ n = omega arith in sym (longer r (n - r) (λ j a b. rest j a (omega arith))) ∙ ap (best A B) e
