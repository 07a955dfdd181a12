-- The numbers that have p, counted:    for i in 0..m { if p(i) { c += 1 } }                 (`Counting`)
-- and stored one after the other:      for i in 0..m { if p(i) { t[c] = i; c += 1 } }       (`Selecting`)
-- Before turn i the count is `count p i`, and the table `over (select p i) d`. Assumes nothing.
use Rattle.std.specs.Prelude.{◌≡◌, refl, ◌≤◌, ◌<◌, set, ◌+◌}
use Rattle.std.proofs.Common.{sym, ◌∙◌, ap, add-zero, arith, length-set}
use Rattle.seq.specs.Seq.{Bool, true, false, cond, List, ℕ, length, count, select, over}
use Rattle.seq.specs.Count.{count-le, count_more, count-skip}
use Rattle.seq.specs.Over.{over_none}
use Rattle.seq.specs.Filled.{selected_more, selected_skip}

-- c is the count before turn i
pub record Counting (p : ℕ → Bool) (m c i : ℕ) : Type 0 where
  pub within : i ≤ m
  pub is : c ≡ count p i

module _ {p : ℕ → Bool} {m : ℕ} where
  pub count_starts : Counting p m 0 0
  count_starts = record { within = omega arith; is = refl }

  module _ {c i : ℕ} (r : Counting p m c i) where
    -- it is no more than the turns
    pub count_most : c ≤ i
    count_most = omega (arith, r.is, count-le p i)

    pub count-takes : {d : ℕ} → i < m → p i ≡ true → d ≡ c + 1 → Counting p m d (i + 1)
    count-takes l e f = record { within = omega arith; is = f ∙ ap (λ (k : ℕ). k + 1) r.is ∙ sym (count_more p i e) }

    pub count-skips : {d : ℕ} → i < m → p i ≡ false → d ≡ c → Counting p m d (i + 1)
    count-skips l e f = record { within = omega arith; is = f ∙ r.is ∙ sym (count-skip p i e) }

    -- a turn that counts by itself
    pub count_turns : {d : ℕ} (b : Bool) → i < m → p i ≡ b → d ≡ c + cond b 1 0 → Counting p m d (i + 1)
    count_turns true l e f = count-takes l e f
    count_turns false l e f = count-skips l e (f ∙ add-zero c)

    pub count_ends : m ≤ i → c ≡ count p m
    count_ends l = let s : i ≡ m = omega (arith, r.within) in r.is ∙ ap (count p) s

-- t is what the loop has made of d before turn i, with c stored
pub record Selecting (p : ℕ → Bool) (m : ℕ) (d t : List ℕ) (c i : ℕ) : Type 0 where
  pub room : m ≤ length d
  pub kept : length t ≡ length d
  pub counted : Counting p m c i
  pub is : t ≡ over (select p i) d

module _ {p : ℕ → Bool} {m : ℕ} {d : List ℕ} where
  pub select_starts : m ≤ length d → Selecting p m d d 0 0
  select_starts h = record { room = h; kept = refl; counted = count_starts; is = over_none d }

  module _ {t : List ℕ} {c i : ℕ} (r : Selecting p m d t c i) where
    pub select-takes : i < m → p i ≡ true → Selecting p m d (set t c i) (c + 1) (i + 1)
    select-takes l e =
        record {
          room = r.room;
          kept = length-set t c i ∙ r.kept;
          counted = count-takes r.counted l e refl;
          is = (λ j. set (r.is j) (r.counted.is j) i) ∙ selected_more p i d (omega (arith, count-le p i, r.room)) e;
        }

    pub select-skips : i < m → p i ≡ false → Selecting p m d t c (i + 1)
    select-skips l e = record { room = r.room; kept = r.kept; counted = count-skips r.counted l e refl; is = r.is ∙ selected_skip p i d e }

    pub select_ends : m ≤ i → t ≡ over (select p m) d
    select_ends l = let s : i ≡ m = omega (arith, r.counted.within) in r.is ∙ ap (λ (j : ℕ). over (select p j) d) s
