-- A table filled cell by cell:    for i in 0..n { t[i] = f(i) }
-- Before turn i it is `filled i f d`. Assumes nothing.
use Rattle.std.specs.Prelude.{◌≡◌, refl, ◌≤◌, ◌<◌, set, ◌+◌}
use Rattle.std.proofs.Common.{◌∙◌, ap, arith, length-set}
use Rattle.seq.specs.Seq.{List, ℕ, length, filled}
use Rattle.seq.specs.Filled.{filled_none, filled_more}

-- t is what the loop has made of d before turn i
pub record Filling {A : Type 0} (f : ℕ → A) (n : ℕ) (d t : List A) (i : ℕ) : Type 0 where
  pub room : n ≤ length d
  pub within : i ≤ n
  pub kept : length t ≡ length d
  pub is : t ≡ filled i f d

module _ {A : Type 0} {f : ℕ → A} {n : ℕ} {d : List A} where
  pub fill_starts : n ≤ length d → Filling f n d d 0
  fill_starts h = record { room = h; within = omega arith; kept = refl; is = filled_none f d }

  module _ {t : List A} {i : ℕ} (r : Filling f n d t i) where
    pub fill_turns : {v : A} → i < n → v ≡ f i → Filling f n d (set t i v) (i + 1)
    fill_turns {v} l e =
        record {
          room = r.room;
          within = omega arith;
          kept = length-set t i v ∙ r.kept;
          is = ap (λ (x : List A). set x i v) r.is ∙ filled_more f i d v (omega (arith, r.room)) e;
        }

    pub fill_ends : n ≤ i → t ≡ filled n f d
    fill_ends l = let s : i ≡ n = omega (arith, r.within) in r.is ∙ ap (λ (j : ℕ). filled j f d) s
