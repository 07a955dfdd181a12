-- The elements of a list that have a property, in their order: what is left of a table of those that still stand when some are dropped. First what a loop asks that moves
-- those that stay to the front of the table, then members; and whether an element of a list has a property. Assumes nothing.
use Rattle.std.specs.Prelude.{◌≡◌, refl, ◌≤◌, ◌||◌, ◌∷◌, ◌++◌}
use Rattle.std.proofs.Common.{sym, ◌∙◌, ap, inl, inr, le_refl, arith}
use Rattle.seq.specs.Seq.{Bool, true, false, cond, List, [], ℕ, suc, length}
use Rattle.seq.specs.Terms.{Among}
use Rattle.seq.specs.Tests.{clash, or_false, or_l, or_r}

module _ {A : Type 0} (p : A → Bool) where
  -- those that have p
  abbrev pub kept : List A → List A
  kept [] = []
  kept (x ∷ xs) = let r = kept xs in cond (p x) (x ∷ r) r

  -- one of them has p
  abbrev pub the_some_of : List A → Bool
  the_some_of [] = false
  the_some_of (x ∷ xs) = p x || the_some_of xs

  -- ── what a loop asks ──

  end_step : (c : Bool) (x y : A) (r : List A) (d : Bool) → cond c (x ∷ cond d (r ++ (y ∷ [])) r) (cond d (r ++ (y ∷ [])) r) ≡ cond d (cond c (x ∷ r) r ++ (y ∷ [])) (cond c (x ∷ r) r)
  end_step true x y r true = refl
  end_step true x y r false = refl
  end_step false x y r true = refl
  end_step false x y r false = refl

  one_step : (y : A) (d : Bool) → cond d (y ∷ []) [] ≡ cond d ([] ++ (y ∷ [])) []
  one_step y true = refl
  one_step y false = refl

  -- one more at the end
  pub kept-end : (l : List A) (y : A) → kept (l ++ (y ∷ [])) ≡ cond (p y) (kept l ++ (y ∷ [])) (kept l)
  kept-end [] y = one_step y (p y)
  kept-end (x ∷ xs) y = ap (λ (r : List A). cond (p x) (x ∷ r) r) (kept-end xs y) ∙ end_step (p x) x y (kept xs) (p y)

  pub kept_more : (l : List A) (y : A) → p y ≡ true → kept (l ++ (y ∷ [])) ≡ kept l ++ (y ∷ [])
  kept_more l y e = kept-end l y ∙ ap (λ (c : Bool). cond c (kept l ++ (y ∷ [])) (kept l)) e

  pub kept-skip : (l : List A) (y : A) → p y ≡ false → kept (l ++ (y ∷ [])) ≡ kept l
  kept-skip l y e = kept-end l y ∙ ap (λ (c : Bool). cond c (kept l ++ (y ∷ [])) (kept l)) e

  length-step : (c : Bool) (x : A) (r : List A) (n : ℕ) → length r ≤ n → length (cond c (x ∷ r) r) ≤ suc n
  length-step true x r n h = omega arith
  length-step false x r n h = omega arith

  -- what is written stays behind what is read
  pub length-kept : (l : List A) → length (kept l) ≤ length l
  length-kept [] = le_refl 0
  length-kept (x ∷ xs) = length-step (p x) x (kept xs) (length xs) (length-kept xs)

  or_assoc : (a b c : Bool) → (a || (b || c)) ≡ ((a || b) || c)
  or_assoc true b c = refl
  or_assoc false b c = refl

  or_none : (b : Bool) → (b || false) ≡ b
  or_none true = refl
  or_none false = refl

  pub some_end : (l : List A) (y : A) → the_some_of (l ++ (y ∷ [])) ≡ (the_some_of l || p y)
  some_end [] y = or_none (p y)
  some_end (x ∷ xs) y = ap (λ (c : Bool). p x || c) (some_end xs y) ∙ or_assoc (p x) (the_some_of xs) (p y)

  -- ── members ──

  has_step : (z x : A) (r : List A) (c : Bool) → p x ≡ c → p z ≡ true → z ≡ x → Among z (cond c (x ∷ r) r)
  has_step z x r true e h q = inl q
  has_step z x r false e h q = absurd (clash (sym (ap p q) ∙ h) e)

  on_step : (z x : A) (r : List A) (c : Bool) → Among z r → Among z (cond c (x ∷ r) r)
  on_step z x r true i = inr i
  on_step z x r false i = i

  -- what has p stays
  pub kept_has : (z : A) (l : List A) → Among z l → p z ≡ true → Among z (kept l)
  kept_has z [] i h = absurd i
  kept_has z (x ∷ xs) (inl e) h = has_step z x (kept xs) (p x) refl h e
  kept_has z (x ∷ xs) (inr i) h = on_step z x (kept xs) (p x) (kept_has z xs i h)

  from_step : (z x : A) (xs r : List A) (c : Bool) → p x ≡ c → (Among z r → Among z xs × (p z ≡ true)) → Among z (cond c (x ∷ r) r) → Among z (x ∷ xs) × (p z ≡ true)
  from_step z x xs r true e ih (inl q) = (inl q, ap p q ∙ e)
  from_step z x xs r true e ih (inr i) = (inr (ih i).0, (ih i).1)
  from_step z x xs r false e ih i = (inr (ih i).0, (ih i).1)

  -- and what stays was there, and has p
  pub kept_from : (z : A) (l : List A) → Among z (kept l) → Among z l × (p z ≡ true)
  kept_from z [] i = absurd i
  kept_from z (x ∷ xs) i = from_step z x xs (kept xs) (p x) refl (kept_from z xs) i

  -- none has p
  pub none_of : (l : List A) → the_some_of l ≡ false → (z : A) → Among z l → p z ≡ false
  none_of [] e z i = absurd i
  none_of (x ∷ xs) e z (inl q) = ap p q ∙ (or_false (p x) (the_some_of xs) e).0
  none_of (x ∷ xs) e z (inr i) = none_of xs (or_false (p x) (the_some_of xs) e).1 z i

  -- one has it
  pub some_of : (l : List A) (z : A) → Among z l → p z ≡ true → the_some_of l ≡ true
  some_of [] z i e = absurd i
  some_of (x ∷ xs) z (inl q) e = or_l {a = p x} (the_some_of xs) (sym (ap p q) ∙ e)
  some_of (x ∷ xs) z (inr i) e = or_r (p x) (some_of xs z i e)

  from_some : (x : A) (xs : List A) (c : Bool) → p x ≡ c → (the_some_of xs ≡ true → (z : A) × Among z xs × (p z ≡ true)) → (c || the_some_of xs) ≡ true → (z : A) × Among z (x ∷ xs) × (p z ≡ true)
  from_some x xs true e ih h = (x, inl refl, e)
  from_some x xs false e ih h = let (z, i, q) = ih h in (z, inr i, q)

  -- and the one that has it
  pub some_from : (l : List A) → the_some_of l ≡ true → (z : A) × Among z l × (p z ≡ true)
  some_from [] e = absurd (clash e refl)
  some_from (x ∷ xs) e = from_some x xs (p x) refl (some_from xs) e
