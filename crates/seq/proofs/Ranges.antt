-- What std's methods answer, by the words of specs/: `(0..n).any(p)` is `the_some_below p n` (`any-some`), `(0..n).position(p).unwrap_or(n)` is `least p n` (`position-least`), and a table whose first
-- cells are copied from another is `filled` (`copied`). Assumes nothing.
use Rattle.std.specs.Prelude.{◌≡◌, refl, ◌≤◌, ◌++◌, ◌+◌}
use Rattle.std.proofs.Common.{Option, Some, None, unwrap_or, sym, ◌∙◌, ap, arith, add-one, ltb-false}
use Rattle.std.proofs.Math.Seq.{length-take-le}
use Rattle.std.proofs.lemmas.Grind.{common_steps}
use Rattle.std.proofs.lemmas.List.FromFn.{length-range_with_len}
use Rattle.std.specs.List.{range_with_len, position_or_len, list_any}
use Rattle.seq.specs.Seq.{Bool, true, false, cond, List, ℕ, zero, suc, ltb, length, get_or, take, drop, least, least_from, the_some_below, table, over, filled}
use Rattle.seq.specs.Table.{length-table, table_is}
use Rattle.seq.proofs.Firsts.{from_zero}
use Rattle.seq.proofs.Least.{least-le}

module _ (p : ℕ → Bool) where
  place_step : (c : Bool) (a n : ℕ) → p a ≡ c → suc a + position_or_len p (range_with_len (suc a) n) ≡ least_from p (suc a) n → a + position_or_len p (range_with_len a (suc n)) ≡ least_from p a (suc n)
  place_step true a n e h = rw e (omega arith)
  place_step false a n e h = let q = add-one a in grind (arith, common_steps)

  at_place : (a n : ℕ) → a + position_or_len p (range_with_len a n) ≡ least_from p a n
  at_place a zero = omega arith
  at_place a (suc n) = place_step (p a) a n refl (at_place (suc a) n)

  place-least : (n : ℕ) → position_or_len p (range_with_len 0 n) ≡ least p n
  place-least n = omega (arith, at_place 0 n, from_zero p n)

  -- ── whether there is one ──

  any_step : (c : Bool) (a n : ℕ) → p a ≡ c → list_any p (range_with_len (a + 1) n) ≡ ltb (position_or_len p (range_with_len (a + 1) n)) n → list_any p (range_with_len a (suc n)) ≡ ltb (position_or_len p (range_with_len a (suc n))) (suc n)
  any_step true a n e h = grind (arith, common_steps)
  any_step false a n e h = grind (arith, common_steps)

  any_by : (a n : ℕ) → list_any p (range_with_len a n) ≡ ltb (position_or_len p (range_with_len a n)) n
  any_by a zero = refl
  any_by a (suc n) = any_step (p a) a n refl (any_by (a + 1) n)

  pub any-some : (n : ℕ) → list_any p (range_with_len 0 n) ≡ the_some_below p n
  any-some n = any_by 0 n ∙ ap (λ (k : ℕ). ltb k n) (place-least n)

  -- ── the place ──

  by_test : (c : Bool) (k n : ℕ) → ltb k n ≡ c → k ≤ n → unwrap_or (cond c (Some k) None) n ≡ k
  by_test true k n e l = refl
  by_test false k n e l = omega (arith, ltb-false k n e)

  pub position-least : (n : ℕ) (r : Option ℕ) → r ≡ cond (ltb (position_or_len p (range_with_len 0 n)) (length (range_with_len 0 n))) (Some (position_or_len p (range_with_len 0 n))) None → unwrap_or r n ≡ least p n
  position-least n r e =
      ap (λ (o : Option ℕ). unwrap_or o n) (e ∙ (λ i. cond (ltb (place-least n i) (length-range_with_len 0 n i)) (Some (place-least n i)) None))
      ∙ by_test (ltb (least p n) n) (least p n) n refl (least-le p n)

-- the first n cells of a over those of d
pub copied : {A : Type 0} (z : A) (n : ℕ) (a d : List A) → n ≤ length a → take n a ++ drop n d ≡ filled n (λ i. get_or a i z) d
unfolding over
copied z n a d h =
    (λ j. table_is (λ i. get_or a i z) n (take n a) z (length-take-le n a h) (λ i l. grind (arith, common_steps)) j ++ drop n d)
    ∙ ap (λ (k : ℕ). table (λ i. get_or a i z) n ++ drop k d) (sym (length-table (λ i. get_or a i z) n))
