-- Zeros: `padded` (a list and then zeros), and `wiped z n d` (d with zeros from cell n on) as a loop reaches it. A table that is filled to n and wiped
-- from n on is `padded`: "places past the counts are zero". Assumes nothing.
use Rattle.std.specs.Prelude.{◌≡◌, ◌≤◌, ◌<◌, ◌-◌, ◌*◌, set, ◌∷◌, ◌++◌, ◌+◌}
use Rattle.std.proofs.Math.Path.{refl}
use Rattle.std.proofs.Common.{sym, ◌∙◌, ap, take-append-drop, length-drop, take_at, get_or-append-add}
use mathlib.Core.List.{append_assoc, append-nil}
use Rattle.std.proofs.Math.Nat.{zero-sub, sub-zero, suc-sub-suc}
use native.Mathlib.Omega.{arith}
use Rattle.std.proofs.Math.ListN.{length-append, get_or-append}
use Rattle.std.proofs.lemmas.List.{length-replicate, get_or-replicate, replicate-append-replicate}
use Rattle.std.proofs.Math.Seq.{length-take-le}
use Rattle.seq.specs.Seq.{List, [], ℕ, zero, suc, length, get_or, replicate, take, drop, sets, table, rows, over, filled, laid, padded, wiping, wiped}
use Rattle.seq.specs.Table.{length-table}
use Rattle.seq.specs.Rows.{length-rows}
use Rattle.seq.specs.Over.{length_over, over_more, over_all, stored_first}

module _ {A : Type 0} (z : A) where
  -- ── padded ──

  pub length-padded : (n : ℕ) (xs : List A) → length xs ≤ n → length (padded z n xs) ≡ n
  length-padded n xs h = rw (length-append, length-replicate) (omega arith)

  pub padded_at : (n i : ℕ) (xs : List A) (d : A) → i < length xs → get_or (padded z n xs) i d ≡ get_or xs i d
  padded_at n i xs d h = get_or-append xs (replicate (n - length xs) z) d i h

  -- past the list it is zero
  pub padded_past : (n i : ℕ) (xs : List A) (d : A) → length xs ≤ i → i < n → get_or (padded z n xs) i d ≡ z
  padded_past n i xs d h l =
      let e : length xs + (i - length xs) ≡ i = omega arith in
      ap (λ (k : ℕ). get_or (padded z n xs) k d) (sym e) ∙ get_or-append-add xs (replicate (n - length xs) z) (i - length xs) d
      ∙ get_or-replicate (n - length xs) (i - length xs) z d (omega arith)

  pub padded_none : (n : ℕ) → padded z n [] ≡ replicate n z
  padded_none n = rw (sub-zero n)

  drop-replicate : (m n : ℕ) → drop m (replicate n z) ≡ replicate (n - m) z
  drop-replicate zero n = rw (sub-zero n)
  drop-replicate (suc m) zero = rw (zero-sub (suc m))
  drop-replicate (suc m) (suc n) = drop-replicate m n ∙ ap (λ (k : ℕ). replicate k z) (sym (suc-sub-suc n m))

  -- laid over zeros it is padded
  pub over_zeros : (n : ℕ) (xs : List A) → over xs (replicate n z) ≡ padded z n xs
  unfolding over
  over_zeros n xs = rw (drop-replicate (length xs) n)

  -- ── wiped from cell n as far as cell i ──

  reached : (n i : ℕ) (d : List A) → n ≤ i → i ≤ length d → length (take n d ++ replicate (i - n) z) ≡ i
  reached n i d h l = rw (length-append, length-take-le n d (omega arith), length-replicate) (omega arith)

  pub wiping_none : (n : ℕ) (d : List A) → n ≤ length d → d ≡ wiping z n n d
  unfolding over
  wiping_none n d h =
      let e : n - n ≡ 0 = omega arith in
      rw (e, append-nil (take n d), length-take-le n d h) (sym (take-append-drop n d))

  pub length-wiping : (n i : ℕ) (d : List A) → n ≤ i → i ≤ length d → length (wiping z n i d) ≡ length d
  length-wiping n i d h l = length_over (take n d ++ replicate (i - n) z) d (rw (reached n i d h l) l)

  pub wiping_more : (n i : ℕ) (d : List A) → n ≤ i → i < length d → set (wiping z n i d) i z ≡ wiping z n (i + 1) d
  wiping_more n i d h l =
      let xs : List A = take n d ++ replicate (i - n) z in
      let e : length xs ≡ i = reached n i d h (omega arith) in
      let g : i - n + 1 ≡ i + 1 - n = omega arith in
      ap (λ (k : ℕ). set (over xs d) k z) (sym e) ∙ over_more xs d z (rw e l)
      ∙ ap (λ (ys : List A). over ys d)
      (append_assoc (take n d) (replicate (i - n) z) (z ∷ []) ∙ ap (λ (ys : List A). take n d ++ ys) (replicate-append-replicate (i - n) 1 z ∙ ap (λ (k : ℕ). replicate k z) g))

  pub wiping_all : (n : ℕ) (d : List A) → n ≤ length d → wiping z n (length d) d ≡ wiped z n d
  wiping_all n d h =
      over_all (take n d ++ replicate (length d - n) z) d (omega (arith, reached n (length d) d h (omega arith)))
      ∙ ap (λ (k : ℕ). take n d ++ replicate (length d - k) z) (sym (length-take-le n d h))

  -- ── wiped ──

  pub length-wiped : (n : ℕ) (d : List A) → n ≤ length d → length (wiped z n d) ≡ length d
  length-wiped n d h = length-padded (length d) (take n d) (omega (arith, length-take-le n d h))

  -- from the start on: all zero
  pub wiped_all : (d : List A) → wiped z 0 d ≡ replicate (length d) z
  wiped_all d = padded_none (length d)

  -- what was laid stays, and the rest is zero
  pub wiped_over : (xs d : List A) → length xs ≤ length d → wiped z (length xs) (over xs d) ≡ padded z (length d) xs
  unfolding over
  wiped_over xs d h = rw (take_at xs (drop (length xs) d) (length xs) refl, length-append, length-drop) (ap (λ (k : ℕ). xs ++ replicate k z) (rest (length xs) (length d) h))
    where
      rest : (m n : ℕ) → m ≤ n → m + (n - m) - m ≡ n - m
      rest m n h = omega arith

  -- the same of a list that is stored
  pub stored-wiped : (d xs t u : List A) (k : ℕ) → length xs ≤ length d → t ≡ sets d 0 xs → u ≡ wiped z k t → k ≡ length xs → u ≡ padded z (length d) xs
  stored-wiped d xs t u k h e g q =
      g ∙ ap (λ (j : ℕ). wiped z j t) q ∙ ap (wiped z (length xs)) (e ∙ stored_first d xs h) ∙ wiped_over xs d h

  pub wiped-filled : (n : ℕ) (f : ℕ → A) (d : List A) → n ≤ length d → wiped z n (filled n f d) ≡ padded z (length d) (table f n)
  wiped-filled n f d h = ap (λ (k : ℕ). wiped z k (filled n f d)) (sym (length-table f n)) ∙ wiped_over (table f n) d (rw (length-table f n) h)

  pub wiped-laid : (w n : ℕ) (f : ℕ → List A) (d : List A) → ((k : ℕ) → length (f k) ≡ w) → w * n ≤ length d → wiped z (w * n) (laid n f d) ≡ padded z (length d) (rows f n)
  wiped-laid w n f d each h =
      let e : length (rows f n) ≡ w * n = length-rows w f n (λ k l. each k) in
      ap (λ (k : ℕ). wiped z k (laid n f d)) (sym e) ∙ wiped_over (rows f n) d (rw e h)
