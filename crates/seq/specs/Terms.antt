-- The words in which the laws are stated. None of them is computed by an operation; in order:
--   Among, Every, Pairs, Chain       the members of a list, any two of them in their order, and any two neighbours
--   Rising, Ordered, Distinct        lists in strict order, and lists without doubles
--   Has, Strict, Order, Best         a candidate below a bound, what a comparison has to be, what is best
--   Ranked, previous                 groups of numbers in cyclic order
--   iter, orbit, steps, Injects      a function step by step, and one that takes no value twice
--   sum, upto, ind                   sums in ℤ
-- A list rises if each element is before all that come after it, not before the next alone: so a law on lists needs no transitivity.
-- Assumes nothing.
use Rattle.std.specs.Prelude.{◌≡◌, ◌⊎◌, ◌<◌, ◌&&◌, ◌∷◌, ◌+ℤ◌}
use Rattle.seq.specs.Seq.{Bool, true, false, cond, not, List, [], Option, none, some, Option·getD, ℕ, zero, suc, eqb, length, get_or, least, best, ℤ, pos}

-- ── members ──

abbrev pub Among : {A : Type 0} → A → List A → Type 0
Among x [] = ⊥
Among x (y ∷ ys) = (x ≡ y) ⊎ Among x ys

abbrev pub Every : {A : Type 0} → (A → Type 0) → List A → Type 0
Every P [] = Unit {0}
Every P (x ∷ xs) = P x × Every P xs

-- of any two members the one that stands first has R to the other
abbrev pub Pairs : {A : Type 0} → (A → A → Type 0) → List A → Type 0
Pairs R [] = Unit {0}
Pairs R (x ∷ xs) = ((z : _) → Among z xs → R x z) × Pairs R xs

-- x has R to the first of a list; each member to the next
abbrev pub Next : {A : Type 0} → (A → A → Type 0) → A → List A → Type 0
Next R x [] = Unit {0}
Next R x (y ∷ ys) = R x y

abbrev pub Chain : {A : Type 0} → (A → A → Type 0) → List A → Type 0
Chain R [] = Unit {0}
Chain R (x ∷ xs) = Next R x xs × Chain R xs

-- whether x stands in cell k
abbrev pub the_stands_at : ℕ → List ℕ → ℕ → Bool
the_stands_at x ys k = eqb x (get_or ys k 0)

-- ── lists in strict order by the test b ──

module _ {A : Type 0} (b : A → A → Bool) where
  -- x is before every element
  abbrev pub Above : A → List A → Type 0
  Above x l = (z : A) → Among z l → b x z ≡ true

  abbrev pub Rising : List A → Type 0
  Rising l = Pairs (λ x z. b x z ≡ true) l

  -- each is before the next
  abbrev pub Ahead : A → List A → Type 0
  Ahead x l = Next (λ y z. b y z ≡ true) x l

  abbrev pub Ordered : List A → Type 0
  Ordered l = Chain (λ x y. b x y ≡ true) l

  -- no element is, by b, like one that stands before it
  abbrev pub Distinct : List A → Type 0
  Distinct l = Pairs (λ x z. b z x ≡ false) l

  -- b is transitive on what has P
  abbrev pub Transitive : (A → Type 0) → Type 0
  Transitive P = (x y z : A) → P x → P y → P z → b x y ≡ true → b y z ≡ true → b x z ≡ true

  -- of two no two are each before the other, and so none is before itself
  abbrev pub Asymmetric : Type 0
  Asymmetric = (x y : A) → b x y ≡ true → b y x ≡ true → ⊥

  -- p and what it is joined to stand where that stood
  pub record Joins (join : A → A → A) (p : A) : Type 0 where
    pub after : (x q : A) → b p q ≡ false → b q p ≡ false → b x q ≡ true → b x (join p q) ≡ true
    pub ahead : (q x : A) → b p q ≡ false → b q p ≡ false → b q x ≡ true → b (join p q) x ≡ true

  -- q stands in a list, and neither is before the other
  pub record Like (p : A) (l : List A) (q : A) : Type 0 where
    pub stands : Among q l
    pub not_before : b p q ≡ false
    pub not_after : b q p ≡ false

  -- x is joined from p and one of a list
  abbrev pub Joined : (A → A → A) → A → A → List A → Type 0
  Joined join p x l = (q : A) × Like p l q × (x ≡ join p q)

-- b is a strict order of a list's cells in which any two differ
pub record Sortable {A : Type 0} (b : A → A → Bool) (d : A) (l : List A) : Type 0 where
  pub irr : (i : ℕ) → i < length l → b (get_or l i d) (get_or l i d) ≡ false
  pub trans : (i j k : ℕ) → i < length l → j < length l → k < length l → b (get_or l i d) (get_or l j d) ≡ true → b (get_or l j d) (get_or l k d) ≡ true → b (get_or l i d) (get_or l k d) ≡ true
  pub total : (i j : ℕ) → i < length l → j < length l → (i ≡ j → ⊥) → b (get_or l i d) (get_or l j d) ≡ false → b (get_or l j d) (get_or l i d) ≡ true

-- numbers in rising order
abbrev pub Asc : List ℕ → Type 0
Asc l = Pairs ◌<◌ l

-- ── candidates ──

module _ (p : ℕ → Bool) where
  -- k is below n and has p
  pub record Has (n k : ℕ) : Type 0 where
    pub below : k < n
    pub has : p k ≡ true

  module _ (b : ℕ → ℕ → Bool) where
    -- a strict order of the candidates
    pub record Strict (n : ℕ) : Type 0 where
      pub irr : (x : ℕ) → Has n x → b x x ≡ false
      pub trans : (x y z : ℕ) → Has n x → Has n y → Has n z → b x y ≡ true → b y z ≡ true → b x z ≡ true

    -- a transitive order in which any two differ
    pub record Order (n : ℕ) : Type 0 where
      pub trans : (x y z : ℕ) → Has n x → Has n y → Has n z → b x y ≡ true → b y z ≡ true → b x z ≡ true
      pub total : (x y : ℕ) → Has n x → Has n y → (x ≡ y → ⊥) → b x y ≡ false → b y x ≡ true

    -- r is a candidate and beats every other
    pub record Best (n r : ℕ) : Type 0 where
      pub is : Has n r
      pub beats : (k : ℕ) → Has n k → (k ≡ r → ⊥) → b r k ≡ true

    abbrev pub BestIs : ℕ → Option ℕ → Type 0
    BestIs n none = (k : ℕ) → Has n k → ⊥
    BestIs n (some r) = Best n r

    -- r is a candidate and none is better
    pub record Top (n r : ℕ) : Type 0 where
      pub is : Has n r
      pub none_better : (k : ℕ) → Has n k → b k r ≡ false

    abbrev pub TopIs : ℕ → Option ℕ → Type 0
    TopIs n none = (k : ℕ) → Has n k → ⊥
    TopIs n (some r) = Top n r

-- ── cycles ──

-- those with the mark first, and by s among those of one mark
abbrev pub marked : Bool → Bool → Bool → Bool
marked a b s = cond a (cond b s true) (cond b false s)

-- the numbers below n fall into groups by o
module _ (o : ℕ → ℕ) (less : ℕ → ℕ → Bool) (n : ℕ) where
  -- less is a strict total order of each group
  pub record Ranked : Type 0 where
    pub irr : (x : ℕ) → x < n → less x x ≡ false
    pub trans : (x y z : ℕ) → x < n → y < n → z < n → o x ≡ o y → o y ≡ o z → less x y ≡ true → less y z ≡ true → less x z ≡ true
    pub total : (x y : ℕ) → x < n → y < n → o x ≡ o y → (x ≡ y → ⊥) → less x y ≡ false → less y x ≡ true

  -- of t's group without t
  abbrev pub others : ℕ → ℕ → Bool
  others t h = eqb (o h) (o t) && not (eqb h t)

  -- going down from t and on from the top, h comes before r
  abbrev pub sooner_by : ℕ → ℕ → ℕ → Bool
  sooner_by t h r = marked (less h t) (less r t) (less r h)

  -- the one before t in its group's cycle; t where it is alone
  abbrev pub previous : ℕ → ℕ
  previous t = Option·getD (best (others t) (sooner_by t) n) t

-- ── a function step by step ──

module _ (f : ℕ → ℕ) where
  abbrev pub iter : ℕ → ℕ → ℕ
  iter zero x = x
  iter (suc k) x = f (iter k x)

  -- x, f x, f (f x) .., k of them
  abbrev pub orbit : ℕ → ℕ → List ℕ
  orbit zero x = []
  orbit (suc k) x = x ∷ orbit k (f x)

  -- the steps after the first until h comes back, at most n
  abbrev pub steps : ℕ → ℕ → ℕ
  steps n h = least (λ k. eqb (f (iter k h)) h) n

  -- y is met from x
  abbrev pub Reach : ℕ → ℕ → Type 0
  Reach x y = (k : ℕ) × (iter k x ≡ y)

  -- f goes from the numbers below n to themselves, and to none twice
  pub record Injects (n : ℕ) : Type 0 where
    pub into : (x : ℕ) → x < n → f x < n
    pub once : (x y : ℕ) → x < n → y < n → f x ≡ f y → x ≡ y

-- following in a list, and how many follow h on its walk
abbrev pub step : List ℕ → ℕ → ℕ
step nx x = get_or nx x 0

abbrev pub turns : List ℕ → ℕ → ℕ
turns nx h = steps (step nx) (length nx) h

-- ── sums in ℤ ──

-- f x added up over the elements x of a list
unfoldable pub sum : {A : Type 0} → List A → (A → ℤ) → ℤ
sum [] f = pos 0
sum (x ∷ xs) f = f x +ℤ sum xs f

-- the numbers below n, falling
unfoldable pub upto : ℕ → List ℕ
upto zero = []
upto (suc n) = n ∷ upto n

-- 1 where a test holds, or 0
abbrev pub ind : Bool → ℤ
ind true = pos 1
ind false = pos 0
