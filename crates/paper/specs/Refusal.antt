-- Refusals and answers (01, "When a map is refused"). Assumes nothing.
use Rattle.std.specs.Prelude.{◌∷◌}
use Rattle.seq.specs.Seq.{Bool, cond, List, [], map, Option, none, some, Option·map, ℕ, ltb, least}

-- "a refusal with number, map and place". "The answer for refusal 8 gains the other edge's number" (02, Ask 2): it stands beside the place, and is 0 in every other refusal
pub record Refusal : Type 0 where
  pub number : ℕ
  pub map : ℕ
  pub place : ℕ
  pub other : ℕ

-- "The answer is either the three counts or a refusal". What is counted differs from operation to operation
pub data Answer (A : Type 0) : Type 0 where
  done : A → Answer A
  refused : Refusal → Answer A

-- refusal r with place k, and j beside it, given exactly when b. "An operation that does not take two or more maps answers with map 0"
abbrev pub beside : ℕ → ℕ → ℕ → Bool → Option Refusal
beside r k j b = cond b (some (record { number = r; map = 0; place = k; other = j })) none

-- with no other edge
abbrev pub given : ℕ → ℕ → Bool → Option Refusal
given r k b = beside r k 0 b

-- refusal r with the least place below n that has p
abbrev pub first_at : ℕ → (ℕ → Bool) → ℕ → Option Refusal
first_at r p n = let k = least p n in given r k (ltb k n)

-- "in this order": the first that is given
abbrev pub first_of : List (Option Refusal) → Option Refusal
first_of [] = none
first_of (none ∷ rs) = first_of rs
first_of (some r ∷ rs) = some r

-- the same refusal, of map m
abbrev pub the_of_map : ℕ → Option Refusal → Option Refusal
the_of_map m = Option·map (λ r. record { number = r.number; map = m; place = r.place; other = r.other })

abbrev pub answer : {A : Type 0} → A → Option Refusal → Answer A
answer a none = done a
answer a (some r) = refused r

-- what comes out: `good` where it is done, `wiped` where it is refused
abbrev pub unless_refused : {A : Type 0} → A → A → Option Refusal → A
unless_refused good wiped none = good
unless_refused good wiped (some r) = wiped
