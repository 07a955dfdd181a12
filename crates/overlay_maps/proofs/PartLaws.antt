-- A part of a table that is lent from a place on, and comes back with its start laid over: the table with that stored there (`part-stored`). Assumes nothing.
use Rattle.std.specs.Prelude.{◌++◌, ◌+◌, ◌-◌}
use mathlib.Core.Path.{◌≡◌, sym, ◌∙◌, ap}
use mathlib.Core.List.{append-nil, append_assoc}
use Prim.Native.Nat.{◌≤◌}
use native.Mathlib.Omega.{arith}
use lib.ListN.{length-drop, drop_of_length-le}
use lib.Seq.{take_all, drop-drop, sets-eq}
use borrow.Rule.Slice.PartMut.{put_mid, mid_of}
use Rattle.seq.specs.Seq.{List, [], ℕ, length, take, drop, sets, over}

module _ {A : Type 0} (t : List A) (a : ℕ) where
  -- what is lent
  lent_is : mid_of a (length t - a) t ≡ drop a t
  lent_is = take_all (length t - a) (drop a t) (omega (arith, length-drop a t))

  pub lent_long : (m : ℕ) → a + m ≤ length t → m ≤ length (mid_of a (length t - a) t)
  lent_long m h = omega (arith, ap length lent_is, length-drop a t)

  pub part-stored : (ys u : List A) → a + length ys ≤ length t → u ≡ over ys (mid_of a (length t - a) t) → put_mid a (length t - a) t u ≡ sets t a ys
  unfolding over
  part-stored ys u h q =
      let none : drop (length t - a) (drop a t) ≡ [] = drop_of_length-le (drop a t) {i = length t - a} (omega (arith, length-drop a t)) in
      ap (λ (r : List A). take a t ++ (u ++ r)) none
      ∙ ap (λ (r : List A). take a t ++ r) (append-nil u ∙ q ∙ ap (λ (r : List A). ys ++ drop (length ys) r) lent_is ∙ ap (λ (r : List A). ys ++ r) (drop-drop (length ys) a t))
      ∙ sym (append_assoc (take a t) ys (drop (a + length ys) t)) ∙ sym (sets-eq ys t a h)
