-- The numbers that have p, counted by their key, from a table of zeros:    for i in 0..m { if p(i) { t[key(i)] += 1 } }
-- Before turn i cell v has the count of those below i that have p and the key v. Assumes nothing.
use Rattle.std.specs.Prelude.{◌≡◌, refl, ◌≤◌, ◌<◌, set, ◌&&◌, ◌+◌}
use Rattle.std.proofs.Common.{sym, ◌∙◌, ap, arith, eq-eqb, ne_eqb, length-set}
use Rattle.seq.specs.Seq.{Bool, true, false, List, ℕ, eqb, length, get_or, count, filled}
use Rattle.seq.specs.Tests.{and_both}
use Rattle.seq.specs.Count.{count-le, count_more, count-skip}
use Rattle.seq.specs.Filled.{filled_at, filled_past, length-filled, filled_is, filled-set, filled-twice}

abbrev pub tally : (ℕ → Bool) → (ℕ → ℕ) → ℕ → ℕ → ℕ
tally p key i v = count (λ k. p k && eqb (key k) v) i

-- t is what the loop has made of d before turn i; the keys are below n
pub record Tallying (p : ℕ → Bool) (key : ℕ → ℕ) (m n : ℕ) (d t : List ℕ) (i : ℕ) : Type 0 where
  pub room : n ≤ length d
  pub within : i ≤ m
  pub kept : length t ≡ length d
  pub is : t ≡ filled n (tally p key i) d

and_no : (a : Bool) {b : Bool} → b ≡ false → (a && b) ≡ false
and_no true e = e
and_no false e = refl

module _ {p : ℕ → Bool} {key : ℕ → ℕ} {m n : ℕ} {d : List ℕ} where
  pub tally_starts : (o : List ℕ) → n ≤ length o → d ≡ filled n (λ v. 0) o → Tallying p key m n d d 0
  tally_starts o l e =
      let k : length d ≡ length o = ap length e ∙ length-filled (λ v. 0) n o l in
      record {
        room = omega arith;
        within = omega arith;
        kept = refl;
        is = filled_is (tally p key 0) n d d (omega arith) refl (λ x q. ap (λ (y : List ℕ). get_or y x 0) e ∙ filled_at (λ v. 0) n x o 0 q) (λ x q c. refl);
      }

  module _ {t : List ℕ} {i : ℕ} (r : Tallying p key m n d t i) where
    tally-cell : (v : ℕ) → v < n → get_or t v 0 ≡ tally p key i v
    tally-cell v l = ap (λ (y : List ℕ). get_or y v 0) r.is ∙ filled_at (tally p key i) n v d 0 l

    -- a count is no more than the turns
    pub tally-most : (v : ℕ) → v < n → get_or t v 0 ≤ i
    tally-most v l = omega (arith, tally-cell v l, count-le (λ k. p k && eqb (key k) v) i)

    pub tally-takes : {v : ℕ} → i < m → p i ≡ true → v ≡ key i → v < n → Tallying p key m n d (set t v (get_or t v 0 + 1)) (i + 1)
    tally-takes {v} l q e b =
        record {
          room = r.room;
          within = omega arith;
          kept = length-set t v (get_or t v 0 + 1) ∙ r.kept;
          is = filled-set (tally p key i) (tally p key (i + 1)) n v (get_or t v 0 + 1) d t r.room r.is b
              (ap (λ (k : ℕ). k + 1) (tally-cell v b) ∙ sym (count_more (λ k. p k && eqb (key k) v) i (λ j. and_both {a = p i} q (eq-eqb (key i) v (sym e)) j)))
              (λ k c f. sym (count-skip (λ x. p x && eqb (key x) k) i (and_no (p i) (ne_eqb (key i) k (λ z. f (sym z ∙ sym e))))));
        }

    pub tally-skips : i < m → p i ≡ false → Tallying p key m n d t (i + 1)
    tally-skips l q =
        record {
          room = r.room;
          within = omega arith;
          kept = r.kept;
          is = filled_is (tally p key (i + 1)) n d t r.room r.kept
              (λ x b. tally-cell x b ∙ sym (count-skip (λ k. p k && eqb (key k) x) i (ap (λ (c : Bool). c && eqb (key i) x) q)))
              (λ x b c. ap (λ (y : List ℕ). get_or y x 0) r.is ∙ filled_past (tally p key i) n x d 0 b);
        }

    pub tally_ends : (o : List ℕ) → m ≤ i → n ≤ length o → d ≡ filled n (λ v. 0) o → t ≡ filled n (tally p key m) o
    tally_ends o l k e =
        let s : i ≡ m = omega (arith, r.within) in
        r.is ∙ ap (λ (j : ℕ). filled n (tally p key j) d) s ∙ ap (filled n (tally p key m)) e ∙ filled-twice (tally p key m) (λ v. 0) n o k
