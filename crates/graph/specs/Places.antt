-- The first place of each number in a table, or `none`: what a loop that stores each place in the cell of its number, from the last place down, makes of a table of
-- `none`. Assumes nothing.
use Rattle.std.specs.Prelude.{◌≡◌, ◌≤◌, ◌<◌}
use Rattle.std.proofs.Common.{sym, ◌∙◌, ap, arith, ext_get_or, le-ltb, ne_eqb}
use Rattle.std.proofs.Math.Decide.{dec_lt}
use Rattle.seq.specs.Seq.{Bool, cond, List, ℕ, eqb, ltb, length, get_or, least, filled, firsts}
use Rattle.seq.proofs.Least.{least_none}
use Rattle.seq.specs.Filled.{length-filled, filled_at, filled_past}
use Rattle.seq.specs.Firsts.{length-firsts}
use Rattle.seq.proofs.Firsts.{firsts_all}
use Rattle.graph.specs.Flat.{Numbers}

-- where v first stands in the first m cells; `none` where it does not
abbrev pub first_place : List ℕ → ℕ → ℕ → ℕ → ℕ
first_place xs m none v = let h = least (λ k. eqb (get_or xs k 0) v) m in cond (ltb h m) h none

module _ (xs : List ℕ) (m none n : ℕ) (o : List ℕ) (N : Numbers xs m n) (h : n ≤ length o) where
  -- the table that the loop starts from, and what it ends with
  abbrev clean : List ℕ
  clean = filled n (λ i. none) o

  abbrev done : List ℕ
  done = firsts (λ k. get_or xs k 0) 0 m clean

  cell_is : (v : ℕ) → v < length o → get_or done v 0 ≡ get_or (filled n (first_place xs m none) o) v 0
  cell_is v l =
      let a : v < length clean = rw (length-filled (λ i. none) n o h) l in
      firsts_all (λ k. get_or xs k 0) m v clean a
      ∙ elim (dec_lt v n) [
        | yes q ↦ ap (λ (r : ℕ). cond (ltb (least (λ k. eqb (get_or xs k 0) v) m) m) (least (λ k. eqb (get_or xs k 0) v) m) r) (filled_at (λ i. none) n v o 0 q)
            ∙ sym (filled_at (first_place xs m none) n v o 0 q)
        | no q ↦ ap (λ (c : Bool). cond c (least (λ k. eqb (get_or xs k 0) v) m) (get_or clean v 0)) (le-ltb (least (λ k. eqb (get_or xs k 0) v) m) m (absentee q))
            ∙ filled_past (λ i. none) n v o 0 (omega arith) ∙ sym (filled_past (first_place xs m none) n v o 0 (omega arith))
      ]
    where
      absentee : (v < n → ⊥) → m ≤ least (λ k. eqb (get_or xs k 0) v) m
      absentee q = omega (arith, least_none (λ k. eqb (get_or xs k 0) v) m (λ k b. ne_eqb (get_or xs k 0) v (λ e. omega (arith, N.named k b))))

  pub places-filled : done ≡ filled n (first_place xs m none) o
  places-filled =
      let a : length done ≡ length o = length-firsts (λ k. get_or xs k 0) 0 m clean ∙ length-filled (λ i. none) n o h in
      ext_get_or 0 done (filled n (first_place xs m none) o) (a ∙ sym (length-filled (first_place xs m none) n o h)) (λ v q. cell_is v (rw a at q))
