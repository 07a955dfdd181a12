-- The members of a list: of two lists end to end, by position, of a list's start; what holds of every member; of a mapped list, with its cells, and of gathered lists. Assumes nothing.
use Rattle.std.specs.Prelude.{◌≡◌, refl, ◌⊎◌, ◌<◌, ◌∷◌, ◌++◌}
use Rattle.std.proofs.Common.{sym, ◌∙◌, ap, subst, append_assoc, inl, inr, ⊎_elim, suc-le-suc, not-suc-le-zero, le_of_suc-le-suc, arith}
use Rattle.seq.specs.Seq.{List, [], map, ℕ, zero, suc, length, get_or, take, gather}
use Rattle.seq.specs.Terms.{Among, Every}

module _ {A : Type 0} where
  pub among-++ : (z : A) (l k : List A) → Among z (l ++ k) → Among z l ⊎ Among z k
  among-++ z [] k i = inr i
  among-++ z (x ∷ xs) k (inl e) = inl (inl e)
  among-++ z (x ∷ xs) k (inr i) = ⊎_elim (λ j. inl (inr j)) (λ j. inr j) (among-++ z xs k i)

  pub ++-among : (z : A) (l k : List A) → Among z l ⊎ Among z k → Among z (l ++ k)
  ++-among z [] k (inl i) = absurd i
  ++-among z [] k (inr i) = i
  ++-among z (x ∷ xs) k (inl (inl e)) = inl e
  ++-among z (x ∷ xs) k (inl (inr i)) = inr (++-among z xs k (inl i))
  ++-among z (x ∷ xs) k (inr i) = inr (++-among z xs k (inr i))

  -- the only member of a list of one
  pub among_one : (z x : A) → Among z (x ∷ []) → z ≡ x
  among_one z x (inl e) = e
  among_one z x (inr i) = absurd i

  -- what stands at a position is a member, and a member stands at one
  pub at_among : (l : List A) (i : ℕ) (d : A) → i < length l → Among (get_or l i d) l
  at_among [] i d h = absurd (not-suc-le-zero h)
  at_among (x ∷ xs) zero d h = inl refl
  at_among (x ∷ xs) (suc i) d h = inr (at_among xs i d (le_of_suc-le-suc h))

  pub among_at : (z : A) (l : List A) (d : A) → Among z l → (i : ℕ) × (i < length l) × (get_or l i d ≡ z)
  among_at z [] d i = absurd i
  among_at z (x ∷ xs) d (inl e) = (0, omega arith, sym e)
  among_at z (x ∷ xs) d (inr i) = let r = among_at z xs d i in (suc r.0, suc-le-suc r.1, r.2)

  -- a member of the start of a list
  pub take-among : (x : A) (k : ℕ) (l : List A) → Among x (take k l) → Among x l
  take-among x zero l i = absurd i
  take-among x (suc k) [] i = absurd i
  take-among x (suc k) (y ∷ l) (inl e) = inl e
  take-among x (suc k) (y ∷ l) (inr i) = inr (take-among x k l i)

  -- ── every member ──

  pub every_in : (P : A → Type 0) (l : List A) → Every P l → (x : A) → Among x l → P x
  every_in P [] h x i = absurd i
  every_in P (y ∷ ys) h x (inl e) = subst P (sym e) h.0
  every_in P (y ∷ ys) h x (inr i) = every_in P ys h.1 x i

  pub in_every : (P : A → Type 0) (l : List A) → ((x : A) → Among x l → P x) → Every P l
  in_every P [] h = tt
  in_every P (y ∷ ys) h = (h y (inl refl), in_every P ys (λ x i. h x (inr i)))

module _ {A : Type 0} {B : Type 0} where
  -- ── of a mapped list ──

  pub among-map : (f : A → B) (z : A) (l : List A) → Among z l → Among (f z) (map f l)
  among-map f z [] i = absurd i
  among-map f z (x ∷ xs) (inl e) = inl (ap f e)
  among-map f z (x ∷ xs) (inr i) = inr (among-map f z xs i)

  pub map-among : (f : A → B) (z : B) (l : List A) → Among z (map f l) → (x : A) × Among x l × (f x ≡ z)
  map-among f z [] i = absurd i
  map-among f z (x ∷ xs) (inl e) = (x, inl refl, sym e)
  map-among f z (x ∷ xs) (inr i) = let r = map-among f z xs i in (r.0, inr r.1, r.2)

  pub length-map : (f : A → B) (l : List A) → length (map f l) ≡ length l
  length-map f [] = refl
  length-map f (x ∷ xs) = ap suc (length-map f xs)

  -- functions that agree on the members
  pub map-ext : (f g : A → B) (l : List A) → ((x : A) → Among x l → f x ≡ g x) → map f l ≡ map g l
  map-ext f g [] h = refl
  map-ext f g (x ∷ xs) h = λ i. h x (inl refl) i ∷ map-ext f g xs (λ y j. h y (inr j)) i

  -- a cell, whatever stands past the end
  pub map_at : (f : A → B) (l : List A) (i : ℕ) (d : A) (e : B) → i < length l → get_or (map f l) i e ≡ f (get_or l i d)
  map_at f [] i d e h = absurd (not-suc-le-zero h)
  map_at f (x ∷ xs) zero d e h = refl
  map_at f (x ∷ xs) (suc i) d e h = map_at f xs i d e (le_of_suc-le-suc h)

  -- ── of gathered lists ──

  pub among-gather : (f : A → List B) (z : B) (x : A) (l : List A) → Among x l → Among z (f x) → Among z (gather f l)
  among-gather f z x [] i j = absurd i
  among-gather f z x (y ∷ ys) (inl e) j = ++-among z (f y) (gather f ys) (inl (subst (λ (w : A). Among z (f w)) e j))
  among-gather f z x (y ∷ ys) (inr i) j = ++-among z (f y) (gather f ys) (inr (among-gather f z x ys i j))

  pub gather-among : (f : A → List B) (z : B) (l : List A) → Among z (gather f l) → (x : A) × Among x l × Among z (f x)
  gather-among f z [] i = absurd i
  gather-among f z (y ∷ ys) i = ⊎_elim (λ j. (y, inl refl, j)) (λ j. let r = gather-among f z ys j in (r.0, inr r.1, r.2)) (among-++ z (f y) (gather f ys) i)

  pub gather-++ : (f : A → List B) (l k : List A) → gather f (l ++ k) ≡ gather f l ++ gather f k
  gather-++ f [] k = refl
  gather-++ f (x ∷ l) k = ap (λ (r : List B). f x ++ r) (gather-++ f l k) ∙ sym (append_assoc (f x) (gather f l) (gather f k))
