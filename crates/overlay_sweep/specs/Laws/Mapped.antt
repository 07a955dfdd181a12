-- Lists under a map g: those of a list that have a property, its start and its rest, elements put in their slots, each before the map and after it. Assumes nothing.
use Rattle.std.specs.Prelude.{◌≡◌, refl, ◌∷◌}
use Rattle.std.proofs.Common.{◌∙◌, ap}
use Rattle.seq.specs.Seq.{Bool, true, false, cond, List, [], map}
use Rattle.seq.specs.Kept.{kept}
use Rattle.seq.specs.Search.{lead, trail}
use Rattle.seq.specs.Slotted.{slotted, slots}

module _ {A B : Type 0} (g : A → B) where
  kept_step : (x : A) (l : List A) (k : List B) (b : Bool) → map g l ≡ k → map g (cond b (x ∷ l) l) ≡ cond b (g x ∷ k) k
  kept_step x l k true e = ap (λ (k : List B). g x ∷ k) e
  kept_step x l k false e = e

  pub kept_map : (t : B → Bool) (l : List A) → map g (kept (λ x. t (g x)) l) ≡ kept t (map g l)
  kept_map t [] = refl
  kept_map t (x ∷ l) = kept_step x (kept (λ x. t (g x)) l) (kept t (map g l)) (t (g x)) (kept_map t l)

  lead-step : (x : A) (l : List A) (k : List B) (b : Bool) → map g l ≡ k → map g (cond b (x ∷ l) []) ≡ cond b (g x ∷ k) []
  lead-step x l k true e = ap (λ (k : List B). g x ∷ k) e
  lead-step x l k false e = refl

  pub lead-map : (t : B → Bool) (l : List A) → map g (lead (λ x. t (g x)) l) ≡ lead t (map g l)
  lead-map t [] = refl
  lead-map t (x ∷ l) = lead-step x (lead (λ x. t (g x)) l) (lead t (map g l)) (t (g x)) (lead-map t l)

  trail-step : (x : A) (xs l : List A) (k : List B) (b : Bool) → map g l ≡ k → map g (cond b l (x ∷ xs)) ≡ cond b k (g x ∷ map g xs)
  trail-step x xs l k true e = e
  trail-step x xs l k false e = refl

  pub trail-map : (t : B → Bool) (l : List A) → map g (trail (λ x. t (g x)) l) ≡ trail t (map g l)
  trail-map t [] = refl
  trail-map t (x ∷ l) = trail-step x l (trail (λ x. t (g x)) l) (trail t (map g l)) (t (g x)) (trail-map t l)

  slotted-step : (x y : A) (ys l : List A) (k : List B) (b : Bool) → map g l ≡ k → map g (cond b (x ∷ y ∷ ys) (y ∷ l)) ≡ cond b (g x ∷ g y ∷ map g ys) (g y ∷ k)
  slotted-step x y ys l k true e = refl
  slotted-step x y ys l k false e = ap (λ (k : List B). g y ∷ k) e

  pub slotted-map : (t : B → B → Bool) (x : A) (l : List A) → map g (slotted (λ x y. t (g x) (g y)) x l) ≡ slotted t (g x) (map g l)
  slotted-map t x [] = refl
  slotted-map t x (y ∷ l) = slotted-step x y l (slotted (λ x y. t (g x) (g y)) x l) (slotted t (g x) (map g l)) (t (g x) (g y)) (slotted-map t x l)

  pub slots_map : (t : B → B → Bool) (l xs : List A) → map g (slots (λ x y. t (g x) (g y)) l xs) ≡ slots t (map g l) (map g xs)
  slots_map t l [] = refl
  slots_map t l (x ∷ xs) = slots_map t (slotted (λ x y. t (g x) (g y)) x l) xs ∙ ap (λ (k : List B). slots t k (map g xs)) (slotted-map t x l)
