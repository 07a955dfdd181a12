-- What is left of a table whose part was written: the part's cells are stored in it, moved up in it, or zeros from a cell on.
use Rattle.std.specs.Prelude.{◌≡◌, refl, ◌≤◌, ◌++◌, ◌+◌, ◌-◌}
use Rattle.std.proofs.Common.{sym, ◌∙◌, ap, append-nil, length-drop, le_refl, arith}
use Rattle.std.proofs.Math.Seq.{slice, length-slice, sets-eq, take_all, length-take-le}
use Rattle.std.proofs.lemmas.List.{drop_all}
use Rattle.std.proofs.lemmas.Slice.{put_mid-paste, between_is}
use Rattle.std.specs.List.{copy_within}
use borrow.Rule.Slice.PartMut.{put_mid}
use Rattle.seq.specs.Seq.{List, ℕ, length, replicate, take, drop, sets, wiped}
use Rattle.seq.specs.Loops.Lifting.{lifted}

module _ {A : Type 0} (t : List A) where
  pub length-part : (a k : ℕ) → a + k ≤ length t → length (take k (drop a t)) ≡ k
  length-part a k h = length-take-le k (drop a t) (omega (arith, length-drop a t))

  -- k cells from cell a on are vs
  pub part_stored : (a k : ℕ) (vs ys : List A) → ys ≡ vs → length vs ≡ k → a + k ≤ length t → put_mid a k t ys ≡ sets t a vs
  part_stored a k vs ys e w h =
      put_mid-paste a k t ys vs (length vs) e w refl
      ∙ ap (λ (l : List A). (take a t ++ l) ++ drop (a + length vs) t) (take_all (length vs) vs (le_refl (length vs)))
      ∙ sym (sets-eq vs t a (omega arith))

  -- the cells from a to e are copied up by w
  pub part_lifted : (a e w : ℕ) → a ≤ e → e + w ≤ length t → copy_within t a e (a + w) ≡ lifted a e w t
  unfolding lifted
  part_lifted a e w h r =
      let vs : List A = slice a e t in
      let long : length vs ≡ e - a = length-slice a e t (omega arith) in
      ap (λ (l : List A). (take (a + w) t ++ l) ++ drop (a + w + (e - a)) t) (between_is t a e)
      ∙ ap (λ (k : ℕ). (take (a + w) t ++ vs) ++ drop (a + w + k) t) (sym long)
      ∙ sym (sets-eq vs t (a + w) (omega arith))

  -- the cells from n on are zeros
  pub part_wiped : (z : A) (n : ℕ) (ys : List A) → n ≤ length t → ys ≡ replicate (length t - n) z → put_mid n (length t - n) t ys ≡ wiped z n t
  part_wiped z n ys h e =
      ap (λ (l : List A). take n t ++ (ys ++ l)) (drop_all (length t - n) (drop n t) (omega (arith, length-drop n t)))
      ∙ ap (λ (l : List A). take n t ++ l) (append-nil ys ∙ e)
      ∙ ap (λ (k : ℕ). take n t ++ replicate (length t - k) z) (sym (length-take-le n t h))
