-- Options: none is not some, some takes no value twice, each option is one of the two, and the members of `optional`. Assumes nothing.
use Rattle.std.specs.Prelude.{◌≡◌, refl, ◌⊎◌}
use Rattle.std.proofs.Common.{sym, ◌∙◌, ap, subst, inl, inr, arith}
use Rattle.seq.specs.Seq.{Option, none, some, ℕ, optional}
use Rattle.seq.specs.Terms.{Among}

module _ {A : Type 0} where
  pub none_some : {x : A} → none ≡ some x → ⊥
  none_some {x} e = let z : ◌≡◌ {A = ℕ} 0 1 = cc in omega arith

  pub some_once : {x y : A} → some x ≡ some y → x ≡ y
  some_once {x} {y} e = cc

  pub option_cases : (o : Option A) → (o ≡ none) ⊎ ((x : A) × (o ≡ some x))
  option_cases none = inl refl
  option_cases (some x) = inr (x, refl)

  pub not_both : {x : A} (o : Option A) → o ≡ none → o ≡ some x → ⊥
  not_both {x} o e f = none_some (sym e ∙ f)

  pub optional_some : (x : A) (o : Option A) → Among x (optional o) → o ≡ some x
  optional_some x none i = absurd i
  optional_some x (some y) (inl e) = ap some (sym e)
  optional_some x (some y) (inr i) = absurd i

  pub some_optional : (x : A) (o : Option A) → o ≡ some x → Among x (optional o)
  some_optional x o e = subst (λ (z : Option A). Among x (optional z)) (sym e) (inl refl)

  pub none_optional : (x : A) (o : Option A) → o ≡ none → Among x (optional o) → ⊥
  none_optional x o e i = subst (λ (z : Option A). Among x (optional z)) e i
