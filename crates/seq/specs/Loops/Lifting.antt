-- Cells moved up by w, from the last down to the first:    for i in (a..e).rev() { t[i + w] = t[i] }
-- Where it is down to i the table is `lifted i e w d`. Assumes nothing.
use Rattle.std.specs.Prelude.{◌≡◌, refl, ◌≤◌, ◌<◌, set, ◌+◌, ◌-◌}
use Rattle.std.proofs.Common.{sym, ◌∙◌, suc-add, arith, length-set}
use Rattle.std.proofs.Math.Path.{ap}
use Rattle.std.proofs.Math.Seq.{slice, slice_empty, slice-cons}
use Rattle.seq.specs.Seq.{List, ℕ, suc, length, get_or, sets}
use Rattle.seq.specs.Cells.{sets_below, set_before}

-- the cells from a to e moved up by w
unfoldable pub lifted : {A : Type 0} → ℕ → ℕ → ℕ → List A → List A
lifted a e w t = sets t (a + w) (slice a e t)

-- t is what the loop has made of d where it is down to cell i
pub record Lifting {A : Type 0} (a e w : ℕ) (d t : List A) (i : ℕ) : Type 0 where
  pub low : a ≤ i
  pub within : i ≤ e
  pub room : e + w ≤ length d
  pub kept : length t ≡ length d
  pub is : t ≡ lifted i e w d

module _ {A : Type 0} where
  lift_none : (e w : ℕ) (t : List A) → t ≡ lifted e e w t
  unfolding lifted
  lift_none e w t = ap (λ (vs : List A). sets t (e + w) vs) (sym (slice_empty e t))

  -- what the loop reads is not moved yet
  lift-reads : (a e w : ℕ) (t : List A) (z : A) → get_or (lifted (suc a) e w t) a z ≡ get_or t a z
  unfolding lifted
  lift-reads a e w t z = sets_below t (suc a + w) (slice (suc a) e t) a z (omega arith)

  lift_more : (a e w : ℕ) (t : List A) (z : A) → a < e → e ≤ length t → set (lifted (suc a) e w t) (a + w) (get_or (lifted (suc a) e w t) a z) ≡ lifted a e w t
  unfolding lifted
  lift_more a e w t z h r =
      ap (set (lifted (suc a) e w t) (a + w)) (lift-reads a e w t z)
      ∙ set_before t (a + w) (suc a + w) (get_or t a z) (slice (suc a) e t) (omega arith)
      ∙ ap (λ (k : ℕ). sets (set t (a + w) (get_or t a z)) k (slice (suc a) e t)) (suc-add a w)
      ∙ ap (λ (vs : List A). sets t (a + w) vs) (sym (slice-cons a e t z h r))

  module _ {a e w : ℕ} {d : List A} where
    pub lift_starts : a ≤ e → e + w ≤ length d → Lifting a e w d d e
    lift_starts h r = record { low = h; within = omega arith; room = r; kept = refl; is = lift_none e w d }

    module _ {t : List A} {i : ℕ} (r : Lifting a e w d t i) where
      pub lift_turns : {v : A} (z : A) → a < i → v ≡ get_or t (i - 1) z → Lifting a e w d (set t (i - 1 + w) v) (i - 1)
      lift_turns {v} z l q =
          let s : i ≡ suc (i - 1) = omega arith in
          let m : t ≡ lifted (suc (i - 1)) e w d = r.is ∙ ap (λ (k : ℕ). lifted k e w d) s in
          record {
            low = omega arith;
            within = omega (arith, r.within);
            room = r.room;
            kept = length-set t (i - 1 + w) v ∙ r.kept;
            is = ap (set t (i - 1 + w)) q ∙ ap (λ (u : List A). set u (i - 1 + w) (get_or u (i - 1) z)) m
                ∙ lift_more (i - 1) e w d z (omega (arith, r.within)) (omega (arith, r.room));
          }

      pub lift_ends : i ≤ a → t ≡ lifted a e w d
      lift_ends l = let s : i ≡ a = omega (arith, r.low) in r.is ∙ ap (λ (k : ℕ). lifted k e w d) s
