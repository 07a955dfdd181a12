-- The four parts of the list, one behind the other: `vs` has the steps of n vertices, `es` those of e edges. Assumes nothing.
use Rattle.std.specs.Prelude.{◌∷◌, ◌++◌, ◌+◌, ◌*◌}
use mathlib.Core.Path.{◌≡◌, refl}
use Prim.Native.Nat.{◌≤◌}
use native.Mathlib.Omega.{arith}
use lib.ListN.{length-append}
use Rattle.seq.specs.Seq.{List, [], ℕ, length, count, rows, sets, padded, wiped}
use Rattle.seq.specs.Wiped.{stored-wiped}
use Rattle.mend.specs.Steps.{step_is}
use Rattle.mend.specs.Stored.{entry_in, the_list_count, list_in}
use Rattle.mend.proofs.AppendLaws.{then-behind, append_long}

module _ (vs es : List ℕ) (n e : ℕ) where
  part_long : (ss : List ℕ) (step m : ℕ) → length (rows (entry_in ss step) m) ≡ 2 * count (step_is ss step) m
  part_long ss step m = append_long 2 (step_is ss step) (λ j. step ∷ j ∷ []) (λ j. refl) m

  abbrev part : List ℕ → ℕ → ℕ → List ℕ
  part ss step m = rows (entry_in ss step) m

  pub list_long : length (list_in vs es n e) ≡ 2 * the_list_count vs es n e
  list_long =
      let a = part_long vs 1 n in
      let b = part_long es 2 e in
      let c = part_long es 3 e in
      let d = part_long vs 4 n in
      let f = length-append (part vs 1 n) (part es 2 e) in
      let g = length-append (part vs 1 n ++ part es 2 e) (part es 3 e) in
      let h = length-append (part vs 1 n ++ part es 2 e ++ part es 3 e) (part vs 4 n) in
      omega (arith, a, b, c, d, f, g, h)

  -- a step's entries stored in d at `at`, and the place behind them
  abbrev Stored : List ℕ → ℕ → ℕ → List ℕ → ℕ → List ℕ → ℕ → Type 0
  Stored ss step m d at u next = (u ≡ sets d at (rows (entry_in ss step) m)) × (next ≡ at + 2 * count (step_is ss step) m)

  pub list_put : (d : List ℕ) → 2 * the_list_count vs es n e ≤ length d → (p q w z u : List ℕ) (a b c k : ℕ)
      → Stored vs 1 n d 0 p a → Stored es 2 e p a q b → Stored es 3 e q b w c → Stored vs 4 n w c z k → u ≡ wiped 0 k z → u ≡ padded 0 (length d) (list_in vs es n e)
  list_put d room p q w z u a b c k s1 s2 s3 s4 wipe =
      let l1 = part_long vs 1 n in
      let l2 = part_long es 2 e in
      let l3 = part_long es 3 e in
      let e2 = length-append (part vs 1 n) (part es 2 e) in
      let e3 = length-append (part vs 1 n ++ part es 2 e) (part es 3 e) in
      let g2 = then-behind d 0 (part vs 1 n) (part es 2 e) p q a s1.0 s2.0 (omega (arith, s1.1, l1)) in
      let g3 = then-behind d 0 (part vs 1 n ++ part es 2 e) (part es 3 e) q w b g2 s3.0 (omega (arith, s1.1, s2.1, l1, l2, e2)) in
      let g4 = then-behind d 0 (part vs 1 n ++ part es 2 e ++ part es 3 e) (part vs 4 n) w z c g3 s4.0 (omega (arith, s1.1, s2.1, s3.1, l1, l2, l3, e2, e3)) in
      stored-wiped 0 d (list_in vs es n e) z u k (rw list_long room) g4 wipe (omega (arith, s1.1, s2.1, s3.1, s4.1, list_long))
