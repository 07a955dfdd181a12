-- A loop from the last number down to the first that stores each number in the cell of its key: the first wins, so that each cell holds the least
-- number of its key (predecessors, least outgoing half-edges) or what stood there. Assumes nothing.
use Rattle.std.specs.Prelude.{◌≡◌, ◌≤◌, ◌<◌, set, ◌+◌}
use Rattle.std.proofs.Common.{sym, ◌∙◌, ap, add-suc, suc-add, arith, lt-ltb, le-ltb, eq-eqb, ne_eqb, length-set, get_or-set_same, get_or-set_other}
use Rattle.std.proofs.Math.Decide.{dec_lt, ℕ_discrete}
use Rattle.std.proofs.Math.Seq.{set_out}
use Rattle.seq.specs.Seq.{true, false, List, ℕ, suc, eqb, length, get_or, first_or, firsts}
use Rattle.seq.specs.Table.{length-table, table_at, table_is, table_of, table-ext}

-- ── the loop ──

module _ (key : ℕ → ℕ) where
  pub length-firsts : (i m : ℕ) (d : List ℕ) → length (firsts key i m d) ≡ length d
  length-firsts i m d = length-table (first_or key i m d) (length d)

  pub firsts_at : (i m v : ℕ) (d : List ℕ) → v < length d → get_or (firsts key i m d) v 0 ≡ first_or key i m d v
  firsts_at i m v d h = table_at (first_or key i m d) (length d) v 0 h

  -- with none stored it is d
  pub firsts_none : (i : ℕ) (d : List ℕ) → d ≡ firsts key i 0 d
  firsts_none i d = sym (table_of d 0) ∙ table-ext (λ v. get_or d v 0) (first_or key i 0 d) (length d) (λ v l. rw (le-ltb i (i + 0) (omega arith)))

  -- v is the key of i, and it is not
  here : (i m v : ℕ) (d : List ℕ) → eqb (key i) v ≡ true → first_or key i (suc m) d v ≡ i
  here i m v d e = rw (e, lt-ltb i (i + suc m) (omega arith))

  there : (i m v : ℕ) (d : List ℕ) → eqb (key i) v ≡ false → first_or key (suc i) m d v ≡ first_or key i (suc m) d v
  there i m v d e = rw (e, add-suc i m, suc-add i m)

  -- a store of i in the cell of its key
  firsts_more : (i m : ℕ) (d : List ℕ) → key i < length d → set (firsts key (suc i) m d) (key i) i ≡ firsts key i (suc m) d
  firsts_more i m d h =
      let t : List ℕ = firsts key (suc i) m d in
      table_is (first_or key i (suc m) d) (length d) (set t (key i) i) 0 (length-set t (key i) i ∙ length-firsts (suc i) m d)
      (λ v l. elim (ℕ_discrete v (key i)) [
        | yes s ↦ ap (λ (w : ℕ). get_or (set t (key i) i) w 0) s ∙ get_or-set_same t (key i) i 0 (rw (length-firsts (suc i) m d) h)
            ∙ sym (here i m v d (eq-eqb (key i) v (sym s)))
        | no s ↦ get_or-set_other t (key i) v i 0 s ∙ firsts_at (suc i) m v d l ∙ there i m v d (ne_eqb (key i) v (λ e. s (sym e)))
      ])

  -- a number whose cell is not there is left out
  skipped : (i m : ℕ) (d : List ℕ) → length d ≤ key i → firsts key (suc i) m d ≡ firsts key i (suc m) d
  skipped i m d h = table-ext (first_or key (suc i) m d) (first_or key i (suc m) d) (length d) (λ v l. there i m v d (ne_eqb (key i) v (λ e. omega arith)))

  pub firsts-stored : (i m : ℕ) (d : List ℕ) → set (firsts key (suc i) m d) (key i) i ≡ firsts key i (suc m) d
  firsts-stored i m d =
      elim (dec_lt (key i) (length d)) [
        | yes q ↦ firsts_more i m d q
        | no q ↦ set_out (firsts key (suc i) m d) (key i) i (omega (arith, length-firsts (suc i) m d)) ∙ skipped i m d (omega arith)
      ]
