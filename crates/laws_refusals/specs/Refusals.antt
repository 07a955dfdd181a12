-- Which refusal is given: of a list of rules the first that is broken. In order: a list that gives none, rule by rule (`nothing`, `is_nothing`); one rule (`given_none`, `least_none_is`, and
-- back); lists put together; what every refusal of a list keeps (`first_keeps`); tables of rules; a refusal of a map; what an answer says of the refusal. Assumes nothing.
use Rattle.std.specs.Prelude.{◌≡◌, refl, ◌⊎◌, ◌<◌, ◌∷◌, ◌++◌}
use Rattle.std.proofs.Common.{sym, ◌∙◌, ap, subst, inl, inr, arith}
use Rattle.seq.specs.Seq.{Bool, true, false, List, [], Option, none, some, ℕ, zero, suc, least, the_some_below, table}
use Rattle.seq.specs.Terms.{Every}
use Rattle.seq.proofs.Least.{no_some, no_some_is}
use Rattle.paper.specs.Refusal.{Refusal, done, refused, beside, given, first_at, first_of, the_of_map, answer}

pub no_refusal : {r : Refusal} → some r ≡ none → ⊥
no_refusal e = let z : ◌≡◌ {A = ℕ} 0 1 = cc in omega arith

-- ── a list that gives none ──

-- no rule of a list is broken, rule by rule
abbrev pub Nothing : List (Option Refusal) → Type 0
Nothing rs = Every (λ r. r ≡ none) rs

pub nothing : (rs : List (Option Refusal)) → first_of rs ≡ none → Nothing rs
nothing [] e = tt
nothing (none ∷ rs) e = (refl, nothing rs e)
nothing (some r ∷ rs) e = absurd (no_refusal e)

pub is_nothing : (rs : List (Option Refusal)) → Nothing rs → first_of rs ≡ none
is_nothing [] n = refl
is_nothing (none ∷ rs) n = is_nothing rs n.1
is_nothing (some r ∷ rs) n = n.0

-- ── one rule ──

pub beside_none : (r k j : ℕ) (b : Bool) → beside r k j b ≡ none → b ≡ false
beside_none r k j true e = absurd (no_refusal e)
beside_none r k j false e = refl

pub none_beside : (r k j : ℕ) (b : Bool) → b ≡ false → beside r k j b ≡ none
none_beside r k j b e = rw e

pub given_none : (r k : ℕ) (b : Bool) → given r k b ≡ none → b ≡ false
given_none r k = beside_none r k 0

pub none_given : (r k : ℕ) (b : Bool) → b ≡ false → given r k b ≡ none
none_given r k = none_beside r k 0

-- no number below n has the property; with j beside the place
pub none_below : (r k j : ℕ) (p : ℕ → Bool) (n : ℕ) → beside r k j (the_some_below p n) ≡ none → (i : ℕ) → i < n → p i ≡ false
none_below r k j p n e = no_some_is p n (beside_none r k j (the_some_below p n) e)

pub below_none : (r k j : ℕ) (p : ℕ → Bool) (n : ℕ) → ((i : ℕ) → i < n → p i ≡ false) → beside r k j (the_some_below p n) ≡ none
below_none r k j p n f = none_beside r k j (the_some_below p n) (no_some p n f)

pub least_none_is : (r : ℕ) (p : ℕ → Bool) (n : ℕ) → first_at r p n ≡ none → (k : ℕ) → k < n → p k ≡ false
least_none_is r p n = none_below r (least p n) 0 p n

pub none_least : (r : ℕ) (p : ℕ → Bool) (n : ℕ) → ((k : ℕ) → k < n → p k ≡ false) → first_at r p n ≡ none
none_least r p n = below_none r (least p n) 0 p n

-- ── lists put together ──

pub first_one : (x : Option Refusal) → first_of (x ∷ []) ≡ x
first_one none = refl
first_one (some r) = refl

-- a list that gives nothing leaves it to the next, and one that gives a refusal is the end
pub first_none : (xs ys : List (Option Refusal)) → first_of xs ≡ none → first_of (xs ++ ys) ≡ first_of ys
first_none [] ys e = refl
first_none (none ∷ xs) ys e = first_none xs ys e
first_none (some r ∷ xs) ys e = absurd (no_refusal e)

pub first_some : (xs ys : List (Option Refusal)) {r : Refusal} → first_of xs ≡ some r → first_of (xs ++ ys) ≡ some r
first_some [] ys e = absurd (no_refusal (sym e))
first_some (none ∷ xs) ys e = first_some xs ys e
first_some (some q ∷ xs) ys e = e

-- the first of a list: it is this rule, or it is given later; with j beside it
pub beside-step : (n k j : ℕ) (b : Bool) (rs : List (Option Refusal)) (r : Refusal) → first_of (beside n k j b ∷ rs) ≡ some r
    → ((b ≡ true) × (r ≡ record { number = n; map = 0; place = k; other = j })) ⊎ ((b ≡ false) × (first_of rs ≡ some r))
beside-step n k j true rs r e = inl (refl, cc)
beside-step n k j false rs r e = inr (refl, e)

-- a refusal of another number is given later
pub beside-later : (n k j : ℕ) (b : Bool) (rs : List (Option Refusal)) (r : Refusal) → (r.number ≡ n → ⊥) → first_of (beside n k j b ∷ rs) ≡ some r → (b ≡ false) × (first_of rs ≡ some r)
beside-later n k j b rs r d e = go (beside-step n k j b rs r e)
  where
    go : ((b ≡ true) × (r ≡ record { number = n; map = 0; place = k; other = j })) ⊎ ((b ≡ false) × (first_of rs ≡ some r)) → (b ≡ false) × (first_of rs ≡ some r)
    go (inl q) = absurd (d (ap (λ (x : Refusal). x.number) q.1))
    go (inr q) = q

-- with no other edge
pub first_step : (n k : ℕ) (b : Bool) (rs : List (Option Refusal)) (r : Refusal) → first_of (given n k b ∷ rs) ≡ some r
    → ((b ≡ true) × (r ≡ record { number = n; map = 0; place = k; other = 0 })) ⊎ ((b ≡ false) × (first_of rs ≡ some r))
first_step n k = beside-step n k 0

pub first_later : (n k : ℕ) (b : Bool) (rs : List (Option Refusal)) (r : Refusal) → (r.number ≡ n → ⊥) → first_of (given n k b ∷ rs) ≡ some r → (b ≡ false) × (first_of rs ≡ some r)
first_later n k = beside-later n k 0

-- ── what every refusal of a list keeps ──

abbrev KeepsBy : (Refusal → Type 0) → Option Refusal → Type 0
KeepsBy P none = Unit {0}
KeepsBy P (some r) = P r

-- where there is a refusal it is as P says
pub record Keeps (P : Refusal → Type 0) (f : Option Refusal) : Type 0 where
  pub by : KeepsBy P f

module _ (P : Refusal → Type 0) where
  pub beside-keeps : (n k j : ℕ) (b : Bool) → P (record { number = n; map = 0; place = k; other = j }) → Keeps P (beside n k j b)
  beside-keeps n k j true p = record { by = p }
  beside-keeps n k j false p = record { by = tt }

  pub first_keeps : (rs : List (Option Refusal)) → Every (Keeps P) rs → Keeps P (first_of rs)
  first_keeps [] h = record { by = tt }
  first_keeps (none ∷ rs) h = first_keeps rs h.1
  first_keeps (some r ∷ rs) h = h.0

  pub keeps_some : (f : Option Refusal) (r : Refusal) → Keeps P f → f ≡ some r → P r
  keeps_some none r h e = absurd (no_refusal (sym e))
  keeps_some (some x) r h e = let q : x ≡ r = cc in subst P q h.by

-- of a table: none, or the one of least number
pub first_table_none : (f : ℕ → Option Refusal) (n : ℕ) → ((i : ℕ) → i < n → f i ≡ none) → first_of (table f n) ≡ none
first_table_none f zero h = refl
first_table_none f (suc n) h = first_none (table f n) (f n ∷ []) (first_table_none f n (λ i l. h i (omega arith))) ∙ first_one (f n) ∙ h n (omega arith)

-- ── of a map, and in an answer ──

pub of_none : (i : ℕ) (r : Option Refusal) → the_of_map i r ≡ none → r ≡ none
of_none i none e = refl
of_none i (some r) e = absurd (no_refusal e)

-- done is with what is answered where nothing is refused
pub done_none : {A : Type 0} (a b : A) (r : Option Refusal) → answer a r ≡ done b → (r ≡ none) × (a ≡ b)
done_none a b none e = (refl, cc)
done_none a b (some r) e = absurd (let z : ◌≡◌ {A = ℕ} 0 1 = cc in omega arith)

-- refused is with the refusal that is given
pub refused_some : {A : Type 0} (a : A) (x : Refusal) (r : Option Refusal) → answer a r ≡ refused x → r ≡ some x
refused_some a x none e = absurd (let z : ◌≡◌ {A = ℕ} 0 1 = cc in omega arith)
refused_some a x (some r) e = cc
