-- Each number stored in the cell of its key, from the last down to the first, so that the first of each key is stored last:
--     for i in (0..m).rev() { t[key(i)] = i }
-- Where it is down to i the table is `firsts key i (m - i) d`. A number whose cell is not there is left out. Assumes nothing.
use Rattle.std.specs.Prelude.{◌≡◌, refl, ◌≤◌, ◌<◌, set, ◌-◌}
use Rattle.std.proofs.Common.{sym, ◌∙◌, ap, arith, length-set}
use Rattle.seq.specs.Seq.{List, ℕ, suc, length, firsts}
use Rattle.seq.specs.Firsts.{firsts_none, firsts-stored}

-- t is what the loop has made of d where it is down to i
pub record Placing (key : ℕ → ℕ) (m : ℕ) (d t : List ℕ) (i : ℕ) : Type 0 where
  pub within : i ≤ m
  pub kept : length t ≡ length d
  pub is : t ≡ firsts key i (m - i) d

module _ {key : ℕ → ℕ} {m : ℕ} {d : List ℕ} where
  pub place_starts : Placing key m d d m
  place_starts =
      let z : m - m ≡ 0 = omega arith in
      record { within = omega arith; kept = refl; is = firsts_none key m d ∙ ap (λ (j : ℕ). firsts key m j d) (sym z) }

  module _ {t : List ℕ} {i : ℕ} (r : Placing key m d t i) where
    pub place_turns : {u : List ℕ} → 0 < i → u ≡ set t (key (i - 1)) (i - 1) → Placing key m d u (i - 1)
    place_turns {u} l e =
        let s : i ≡ suc (i - 1) = omega arith in
        let more : suc (m - i) ≡ m - (i - 1) = omega (arith, r.within) in
        record {
          within = omega (arith, r.within);
          kept = ap length e ∙ length-set t (key (i - 1)) (i - 1) ∙ r.kept;
          is = e ∙ ap (λ (x : List ℕ). set x (key (i - 1)) (i - 1)) r.is
              ∙ ap (λ (j : ℕ). set (firsts key j (m - i) d) (key (i - 1)) (i - 1)) s
              ∙ firsts-stored key (i - 1) (m - i) d ∙ ap (λ (j : ℕ). firsts key (i - 1) j d) more;
        }

    pub place_ends : i ≤ 0 → t ≡ firsts key 0 m d
    place_ends l =
        let z : i ≡ 0 = omega arith in
        let w : m - 0 ≡ m = omega arith in
        r.is ∙ ap (λ (j : ℕ). firsts key j (m - j) d) z ∙ ap (λ (j : ℕ). firsts key 0 j d) w
