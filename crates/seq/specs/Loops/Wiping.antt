-- A table wiped from cell n on:    for i in n..t.len() { t[i] = z }
-- Before turn i it is `wiping z n i d`. Assumes nothing.
use Rattle.std.specs.Prelude.{◌≡◌, refl, ◌≤◌, ◌<◌, set, ◌+◌}
use Rattle.std.proofs.Common.{◌∙◌, ap, arith, length-set}
use Rattle.seq.specs.Seq.{List, ℕ, length, wiping, wiped}
use Rattle.seq.specs.Wiped.{wiping_none, wiping_more, wiping_all}

-- t is what the loop has made of d before turn i
pub record Wiping {A : Type 0} (z : A) (n : ℕ) (d t : List A) (i : ℕ) : Type 0 where
  pub past : n ≤ i
  pub within : i ≤ length d
  pub kept : length t ≡ length d
  pub is : t ≡ wiping z n i d

module _ {A : Type 0} {z : A} {n : ℕ} {d : List A} where
  pub wipe_starts : n ≤ length d → Wiping z n d d n
  wipe_starts h = record { past = omega arith; within = h; kept = refl; is = wiping_none z n d h }

  module _ {t : List A} {i : ℕ} (r : Wiping z n d t i) where
    pub wipe_turns : i < length t → Wiping z n d (set t i z) (i + 1)
    wipe_turns h = record {
      past = omega (arith, r.past);
      within = omega (arith, r.kept);
      kept = length-set t i z ∙ r.kept;
      is = rw r.is (wiping_more z n i d r.past (omega (arith, r.kept)));
    }

    pub wipe_ends : length t ≤ i → t ≡ wiped z n d
    wipe_ends h =
        let e : i ≡ length d = omega (arith, r.within, r.kept) in
        r.is ∙ ap (λ (k : ℕ). wiping z n k d) e ∙ wiping_all z n d (omega (arith, r.past))
