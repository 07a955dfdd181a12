-- The sum of a function over a list, in ℕ: functions that agree, zeros, two sums, and a mapped list. Assumes nothing.
use Rattle.std.specs.Prelude.{◌≡◌, refl, ◌∷◌, ◌+◌}
use Rattle.std.proofs.Common.{ap, arith}
use Rattle.seq.specs.Seq.{List, [], map, ℕ}

abbrev pub total {ℓ} : {A : Type ℓ} → (A → ℕ) → List A → ℕ
total f [] = 0
total f (x ∷ xs) = f x + total f xs

pub total_ext : {A : Type 0} (f g : A → ℕ) (l : List A) → ((x : A) → f x ≡ g x) → total f l ≡ total g l
total_ext f g [] h = refl
total_ext f g (x ∷ xs) h = rw (h x, total_ext f g xs h)

pub total-zero : {A : Type 0} (l : List A) → total (λ x. 0) l ≡ 0
total-zero [] = refl
total-zero (x ∷ xs) = omega (arith, total-zero xs)

pub total-+ : {A : Type 0} (f g : A → ℕ) (l : List A) → total (λ x. f x + g x) l ≡ total f l + total g l
total-+ f g [] = refl
total-+ f g (x ∷ xs) = omega (arith, total-+ f g xs)

pub total-map : {A : Type 0} {B : Type 0} (g : A → B) (f : B → ℕ) (l : List A) → total f (map g l) ≡ total (λ x. f (g x)) l
total-map g f [] = refl
total-map g f (x ∷ xs) = ap (λ (r : ℕ). f (g x) + r) (total-map g f xs)
