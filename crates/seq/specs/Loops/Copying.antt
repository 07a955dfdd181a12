-- A list copied into a table from a place on:    for i in 0..xs.len() { t[at + i] = xs[i] }
-- Before turn i its first i elements stand there. Assumes nothing.
use Rattle.std.specs.Prelude.{◌≡◌, refl, ◌≤◌, ◌<◌, set, ◌∷◌, ◌+◌}
use Rattle.std.proofs.Common.{sym, ◌∙◌, ap, add-one, arith, length-take, take-suc, take_all}
use Rattle.std.proofs.Math.Seq.{length-sets}
use Rattle.seq.specs.Seq.{List, [], ℕ, length, get_or, take, sets}
use Rattle.seq.specs.Over.{stored-behind}

-- t is what the loop has made of d before turn i
pub record Copying {A : Type 0} (xs d : List A) (at : ℕ) (t : List A) (i : ℕ) : Type 0 where
  pub within : i ≤ length xs
  pub kept : length t ≡ length d
  pub is : t ≡ sets d at (take i xs)

module _ {A : Type 0} {xs d : List A} {at : ℕ} where
  pub copy_starts : Copying xs d at d 0
  copy_starts = record { within = omega arith; kept = refl; is = refl }

  module _ {t : List A} {i : ℕ} (r : Copying xs d at t i) where
    pub copy_turns : (z : A) → i < length xs → Copying xs d at (set t (at + i) (get_or xs i z)) (i + 1)
    copy_turns z h =
        let x = get_or xs i z in
        let e : length (take i xs) ≡ i = length-take i xs ∙ omega arith in
        let s : set t (at + i) x ≡ sets d at (take (i + 1) xs) =
        ap (λ (u : List A). set u (at + i) x) r.is ∙ ap (λ (k : ℕ). set (sets d at (take i xs)) (at + k) x) (sym e)
        ∙ stored-behind d at (take i xs) (x ∷ []) ∙ ap (sets d at) (sym (take-suc xs i z h)) ∙ ap (λ (k : ℕ). sets d at (take k xs)) (sym (add-one i)) in
        record { within = omega arith; kept = ap length s ∙ length-sets d at (take (i + 1) xs); is = s }

    pub copy_ends : length xs ≤ i → t ≡ sets d at xs
    copy_ends h = r.is ∙ ap (sets d at) (take_all i xs h)
