-- The definitions at work, each on a small case that is computed. Assumes nothing.
use Rattle.std.specs.Prelude.{◌≡◌, refl, ◌∷◌, ◌*◌, ◌%◌}
use Rattle.seq.specs.Seq.{true, false, [], none, some, ℕ, ltb, eqb, least, the_some_below, all_below, count, select, table, rows, best, best_of, position, elem, gather, in_order_by, walk, leader, predecessor, cell, padded, filled, row_stored, wiped, over}

-- ── searches ──

-- of 2, 5, 8, .. the least; and the bound where there is none below it
first_hit : least (λ k. eqb (k % 3) 2) 10 ≡ 2
first_hit = refl

no_hit : least (λ k. eqb (k % 3) 2) 2 ≡ 2
no_hit = refl

some_below : the_some_below (λ k. eqb k 4) 5 ≡ true
some_below = refl

all_below_lem : all_below (λ k. ltb k 4) 5 ≡ false
all_below_lem = refl

how-many : count (λ k. eqb (k % 3) 2) 9 ≡ 3
how-many = refl

which : select (λ k. eqb (k % 3) 2) 9 ≡ 2 ∷ 5 ∷ 8 ∷ []
which = refl

-- the greatest last digit; of 7 and 17, which are equal, the first
best-digit : best (λ k. ltb 0 k) (λ x y. ltb (y % 10) (x % 10)) 19 ≡ some 9
best-digit = refl

best_first : best (λ k. eqb (k % 10) 7) (λ x y. ltb (y % 10) (x % 10)) 19 ≡ some 7
best_first = refl

no_best : best (λ k. ltb 20 k) ltb 19 ≡ none
no_best = refl

-- ── lists ──

smallest : best_of ltb 5 (3 ∷ 7 ∷ 1 ∷ 4 ∷ []) ≡ 1
smallest = refl

where_first : position 7 (3 ∷ 7 ∷ 1 ∷ 7 ∷ []) ≡ 1
where_first = refl

not_there : elem 8 (3 ∷ 7 ∷ []) ≡ false
not_there = refl

sorted : in_order_by ltb (λ p q. q) (3 ∷ 7 ∷ 1 ∷ 3 ∷ []) ≡ 1 ∷ 3 ∷ 7 ∷ []
sorted = refl

gathered : gather {A = ℕ} (λ x. x ∷ x ∷ []) (3 ∷ 7 ∷ []) ≡ 3 ∷ 3 ∷ 7 ∷ 7 ∷ []
gathered = refl

-- 0 → 2 → 4 → 0 and 1 → 3 → 1
a_walk : walk (2 ∷ 3 ∷ 4 ∷ 1 ∷ 0 ∷ []) 4 ≡ 4 ∷ 0 ∷ 2 ∷ []
a_walk = refl

a_leader : leader (2 ∷ 3 ∷ 4 ∷ 1 ∷ 0 ∷ []) 3 ≡ 1
a_leader = refl

a_predecessor : predecessor (2 ∷ 3 ∷ 4 ∷ 1 ∷ 0 ∷ []) 0 ≡ 4
a_predecessor = refl

-- ── tables ──

squares : table (λ i. i * i) 4 ≡ 0 ∷ 1 ∷ 4 ∷ 9 ∷ []
squares = refl

a_cell : cell 0 2 (rows (λ i. i ∷ i * i ∷ []) 4) 3 1 ≡ 9
a_cell = refl

half-filled : filled 2 (λ i. i * i) (7 ∷ 7 ∷ 7 ∷ []) ≡ 0 ∷ 1 ∷ 7 ∷ []
unfolding over
half-filled = refl

a_row : row_stored {A = ℕ} 2 (7 ∷ 7 ∷ 7 ∷ 7 ∷ []) 1 (3 ∷ 4 ∷ []) ≡ 7 ∷ 7 ∷ 3 ∷ 4 ∷ []
a_row = refl

zeros_past : padded {A = ℕ} 0 4 (3 ∷ 7 ∷ []) ≡ 3 ∷ 7 ∷ 0 ∷ 0 ∷ []
zeros_past = refl

from_one_on : wiped {A = ℕ} 0 1 (7 ∷ 7 ∷ 7 ∷ []) ≡ 7 ∷ 0 ∷ 0 ∷ []
from_one_on = refl
