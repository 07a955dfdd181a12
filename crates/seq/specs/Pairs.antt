-- What holds of every two members of a list in their order (`Pairs`) and of every two neighbours (`Chain`). In order: by cells, and so lists in strict order by number; of a list in
-- parts; from neighbour to neighbour (`linked`); of a mapped property; where a member stands (`split`, `apart_in`). Assumes nothing.
use Rattle.std.specs.Prelude.{◌≡◌, refl, ◌⊎◌, ◌<◌, ◌∷◌, ◌++◌}
use Rattle.std.proofs.Common.{sym, ◌∙◌, ap, subst, append_assoc, inl, inr, ⊎_elim, suc-le-suc, zero-le, not-suc-le-zero, le_of_suc-le-suc, arith}
use Rattle.std.proofs.Math.Decide.{dec_lt}
use Rattle.seq.specs.Seq.{Bool, true, false, List, [], Option, none, some, ℕ, zero, suc, length, get_or, map}
use Rattle.seq.specs.Terms.{Among, Pairs, Chain, Rising}
use Rattle.seq.specs.Tests.{clash}
use Rattle.seq.specs.Options.{none_some}
use Rattle.seq.specs.Members.{among-++, ++-among, among_one, at_among, among_at, map-among}

abbrev pub first : {A : Type 0} → List A → Option A
first [] = none
first (x ∷ xs) = some x

abbrev pub last : {A : Type 0} → List A → Option A
last [] = none
last (x ∷ []) = some x
last (x ∷ y ∷ ys) = last (y ∷ ys)

module _ {A : Type 0} (R : A → A → Type 0) where
  -- of the last of the one list and the first of the other
  abbrev pub Touching : Option A → Option A → Type 0
  Touching none o = Unit {0}
  Touching (some x) none = Unit {0}
  Touching (some x) (some y) = R x y

-- ── by cells ──

module _ {A : Type 0} (R : A → A → Type 0) where
  pub pairs_at : (l : List A) (d : A) → Pairs R l → (i j : ℕ) → i < j → j < length l → R (get_or l i d) (get_or l j d)
  pairs_at [] d p i j h l = absurd (not-suc-le-zero l)
  pairs_at (x ∷ xs) d p i zero h l = absurd (not-suc-le-zero h)
  pairs_at (x ∷ xs) d p zero (suc j) h l = p.0 (get_or xs j d) (at_among xs j d (le_of_suc-le-suc l))
  pairs_at (x ∷ xs) d p (suc i) (suc j) h l = pairs_at xs d p.1 i j (le_of_suc-le-suc h) (le_of_suc-le-suc l)

  pub at_pairs : (l : List A) (d : A) → ((i j : ℕ) → i < j → j < length l → R (get_or l i d) (get_or l j d)) → Pairs R l
  at_pairs [] d h = tt
  at_pairs (x ∷ xs) d h = (
    λ z i. let q = among_at z xs d i in subst (R x) q.2 (h 0 (suc q.0) (suc-le-suc zero-le) (suc-le-suc q.1)),
    at_pairs xs d (λ i j l m. h (suc i) (suc j) (suc-le-suc l) (suc-le-suc m)),
  )

module _ {A : Type 0} (b : A → A → Bool) where
  -- what stands first in a list in strict order is before what stands later
  pub rising_at : (l : List A) (d : A) → Rising b l → (i j : ℕ) → i < j → j < length l → b (get_or l i d) (get_or l j d) ≡ true
  rising_at l d r = pairs_at (λ x y. b x y ≡ true) l d r

  -- and a list in which that is so is in strict order
  pub at_rising : (l : List A) (d : A) → ((i j : ℕ) → i < j → j < length l → b (get_or l i d) (get_or l j d) ≡ true) → Rising b l
  at_rising l d h = at_pairs (λ x y. b x y ≡ true) l d h

  -- of two cells one is before the other, or they are one cell
  pub rising-number : (l : List A) (d : A) → Rising b l → (i j : ℕ) → i < length l → j < length l → b (get_or l i d) (get_or l j d) ≡ false → b (get_or l j d) (get_or l i d) ≡ false → i ≡ j
  rising-number l d r i j li lj e f =
      elim (dec_lt i j) [
        | yes s ↦ absurd (clash (rising_at l d r i j s lj) e)
        | no s ↦ elim (dec_lt j i) [ yes t ↦ absurd (clash (rising_at l d r j i t li) f) | no t ↦ omega arith ]
      ]

  -- and so of two members
  pub rising-once : (l : List A) → Rising b l → (x y : A) → Among x l → Among y l → b x y ≡ false → b y x ≡ false → x ≡ y
  rising-once l r x y i j e f =
      let (n, ln, p) = among_at x l x i in
      let (k, lk, q) = among_at y l x j in
      let s : n ≡ k = rising-number l x r n k ln lk (subst (λ (z : A). b z (get_or l k x) ≡ false) (sym p) (subst (λ (z : A). b x z ≡ false) (sym q) e))
      (subst (λ (z : A). b z (get_or l n x) ≡ false) (sym q) (subst (λ (z : A). b y z ≡ false) (sym p) f)) in
      sym p ∙ ap (λ (a : ℕ). get_or l a x) s ∙ q

-- ── of a list in parts ──

module _ {A : Type 0} (R : A → A → Type 0) where
  pub pairs-parts : (l k : List A) → Pairs R (l ++ k) → Pairs R l × Pairs R k × ((x y : A) → Among x l → Among y k → R x y)
  pairs-parts [] k h = (tt, h, λ x y i j. absurd i)
  pairs-parts (z ∷ l) k h =
      let (a, b, c) = pairs-parts l k h.1 in
      ((λ x i. h.0 x (++-among x l k (inl i)), a), b, λ x y i j. ⊎_elim (λ e. subst (λ (w : A). R w y) (sym e) (h.0 y (++-among y l k (inr j)))) (λ i. c x y i j) i)

  pub parts-pairs : (l k : List A) → Pairs R l → Pairs R k → ((x y : A) → Among x l → Among y k → R x y) → Pairs R (l ++ k)
  parts-pairs [] k a b c = b
  parts-pairs (z ∷ l) k a b c =
      (λ x i. ⊎_elim (λ i. a.0 x i) (λ j. c z x (inl refl) j) (among-++ x l k i), parts-pairs l k a.1 b (λ x y i j. c x y (inr i) j))

  -- one more at the end
  pub pairs-snoc : (l : List A) (x : A) → Pairs R l → ((z : A) → Among z l → R z x) → Pairs R (l ++ (x ∷ []))
  pairs-snoc l x h f = parts-pairs l (x ∷ []) h (λ z i. absurd i, tt) (λ z y i j. subst (R z) (sym (among_one y x j)) (f z i))

  pub chain-parts : (l k : List A) → Chain R (l ++ k) → Chain R l × Chain R k
  chain-parts [] k h = (tt, h)
  chain-parts (x ∷ []) k h = ((tt, tt), h.1)
  chain-parts (x ∷ y ∷ l) k h = let (a, b) = chain-parts (y ∷ l) k h.1 in ((h.0, a), b)

  pub parts-chain : (l k : List A) → Chain R l → Chain R k → Touching R (last l) (first k) → Chain R (l ++ k)
  parts-chain [] k a b c = b
  parts-chain (x ∷ []) [] a b c = (tt, tt)
  parts-chain (x ∷ []) (y ∷ k) a b c = (c, b)
  parts-chain (x ∷ y ∷ l) k a b c = (a.0, parts-chain (y ∷ l) k a.1 b c)

  pub every-chain : (l : List A) → ((x y : A) → Among x l → Among y l → R x y) → Chain R l
  every-chain [] f = tt
  every-chain (x ∷ []) f = (tt, tt)
  every-chain (x ∷ y ∷ l) f = (f x y (inl refl) (inr (inl refl)), every-chain (y ∷ l) (λ a b i j. f a b (inr i) (inr j)))

  -- from neighbour to neighbour
  pub linked : (x : A) (m : List A) (y : A) → ((a b c : A) → Among b m → R a b → R b c → R a c) → Chain R (x ∷ (m ++ (y ∷ []))) → R x y
  linked x [] y trans h = h.0
  linked x (z ∷ m) y trans h = trans x z y (inl refl) h.0 (linked z m y (λ a b c i. trans a b c (inr i)) h.1)

module _ {A : Type 0} (R S : A → A → Type 0) where
  pub pairs-map : (l : List A) → ((x y : A) → Among x l → Among y l → R x y → S x y) → Pairs R l → Pairs S l
  pairs-map [] f h = tt
  pairs-map (x ∷ l) f h = (λ z i. f x z (inl refl) (inr i) (h.0 z i), pairs-map l (λ y z i j. f y z (inr i) (inr j)) h.1)

  pub chain-map : (l : List A) → ((x y : A) → Among x l → Among y l → R x y → S x y) → Chain R l → Chain S l
  chain-map [] f h = tt
  chain-map (x ∷ []) f h = (tt, tt)
  chain-map (x ∷ y ∷ l) f h = (f x y (inl refl) (inr (inl refl)) h.0, chain-map (y ∷ l) (λ a b i j. f a b (inr i) (inr j)) h.1)

-- of a mapped list
pub map-pairs : {A : Type 0} {B : Type 0} (f : A → B) (R : A → A → Type 0) (S : B → B → Type 0) (l : List A) → ((x y : A) → Among x l → Among y l → R x y → S (f x) (f y)) → Pairs R l → Pairs S (map f l)
map-pairs f R S [] h p = tt
map-pairs f R S (x ∷ l) h p = (
  λ z i. let (y, j, e) = map-among f z l i in subst (S (f x)) e (h x y (inl refl) (inr j) (p.0 y j)),
  map-pairs f R S l (λ y z i j. h y z (inr i) (inr j)) p.1,
)

-- ── members ──

module _ {A : Type 0} where
  pub first_in : (l : List A) (x : A) → first l ≡ some x → Among x l
  first_in [] x e = absurd (none_some e)
  first_in (y ∷ l) x e = inl (cc)

  pub last_in : (l : List A) (x : A) → last l ≡ some x → Among x l
  last_in [] x e = absurd (none_some e)
  last_in (y ∷ []) x e = inl (cc)
  last_in (y ∷ z ∷ l) x e = inr (last_in (z ∷ l) x e)

  -- where a member stands
  pub split : (l : List A) (x : A) → Among x l → (a : List A) × (b : List A) × (l ≡ a ++ (x ∷ b))
  split [] x i = absurd i
  split (y ∷ l) x (inl e) = ([], l, ap (λ (z : A). z ∷ l) (sym e))
  split (y ∷ l) x (inr i) = let (a, b, e) = split l x i in (y ∷ a, b, ap (λ (k : List A). y ∷ k) e)

  -- of two members that are not one, one stands before the other
  pub apart_in : (l : List A) (x y : A) → Among x l → Among y l → (x ≡ y → ⊥) →
      ((a : List A) × (m : List A) × (c : List A) × (l ≡ a ++ (x ∷ (m ++ (y ∷ c))))) ⊎ ((a : List A) × (m : List A) × (c : List A) × (l ≡ a ++ (y ∷ (m ++ (x ∷ c)))))
  apart_in [] x y i j n = absurd i
  apart_in (z ∷ l) x y (inl e) (inl f) n = absurd (n (e ∙ sym f))
  apart_in (z ∷ l) x y (inl e) (inr j) n = let (m, c, k) = split l y j in inl ([], m, c, λ t. sym e t ∷ k t)
  apart_in (z ∷ l) x y (inr i) (inl f) n = let (m, c, k) = split l x i in inr ([], m, c, λ t. sym f t ∷ k t)
  apart_in (z ∷ l) x y (inr i) (inr j) n =
      ⊎_elim (λ (a, m, c, e). inl (z ∷ a, m, c, ap (λ (k : List A). z ∷ k) e)) (λ (a, m, c, e). inr (z ∷ a, m, c, ap (λ (k : List A). z ∷ k) e)) (apart_in l x y i j n)

  -- the part from one member to another
  pub stretch : (x : A) (m : List A) (y : A) (c : List A) → x ∷ (m ++ (y ∷ c)) ≡ (x ∷ (m ++ (y ∷ []))) ++ c
  stretch x m y c = ap (λ (k : List A). x ∷ k) (sym (append_assoc m (y ∷ []) c))
