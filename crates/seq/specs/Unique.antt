-- A promise `outcome ≡ definition of the input` determines the outcome: two outcomes that keep it are one, however they came about, and there is one.
-- Assumes nothing.
use Rattle.std.specs.Prelude.{◌≡◌}
use Rattle.std.proofs.Common.{sym, ◌∙◌, ap}

module _ {A : Type 0} {B : Type 0} (f : A → B) where
  pub determined : (x : A) (r s : B) → r ≡ f x → s ≡ f x → r ≡ s
  determined x r s e g = e ∙ sym g

  -- from equal inputs too
  pub determined_by : (x y : A) (r s : B) → x ≡ y → r ≡ f x → s ≡ f y → r ≡ s
  determined_by x y r s q e g = e ∙ ap f q ∙ sym g

  -- whatever is known of the definition's value is known of the outcome
  pub outcome_has : (P : B → Type 0) (x : A) (r : B) → r ≡ f x → P (f x) → P r
  outcome_has P x r e h = rw e h
