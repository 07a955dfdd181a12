-- Signed machine terms. `Tr x`: the term x, in which the machine writes and reads back, is a plain integer z with |z| ≤ B. In order: what fits a width;
-- `Tr`; sums, products, negations, quotients and remainders; literals and atoms; what the machine reads back; the sets `tr` and `trs`; `fits` and `plain`.
-- What for: see Mach. Assumes nothing.
use Rattle.std.specs.Prelude.{◌≡◌, refl, Bool, true, false, ℕ, suc, pred, ◌+◌, ◌*◌, ◌^◌, ◌≤◌, ◌<◌, T, ltb, ℤ, pos, negsuc, neg_ℤ, nat_abs, ◌+ℤ◌, ◌*ℤ◌}
use Rattle.std.proofs.Common.{sym, ◌∙◌, ap, subst, le_refl, le_trans, le_of_eq, lt_of_le_of_lt, arith, ltb→lt}
use Rattle.std.proofs.Math.Nat.{le-pred_of_lt}
use Rattle.std.specs.Int.Signed.{mag, quot_z, rem_z, nat_abs-le}
use Rattle.std.specs.Int.{Width}
use mir.Val.{SFits, to_z, of_z, hbits}
use Rattle.std.proofs.lemmas.Int.{to_z-of_z}
use Rattle.exact.specs.Abs.{abs_neg, bd-+, bd-*, bd_quot, bd-rem}

-- ---- what fits a width
mag-abs : (z : ℤ) → mag z ≤ nat_abs z
mag-abs (pos n) = le_refl n
mag-abs (negsuc n) = omega arith

pub sfits-abs : {w : Width} {z : ℤ} (B : ℕ) → nat_abs z ≤ B → T (ltb B (2 ^ hbits w)) → SFits w z
sfits-abs {w} {z} B h t = record { sfits = lt_of_le_of_lt (mag-abs z) (lt_of_le_of_lt h (ltb→lt B (2 ^ hbits w) t)) }

-- ---- a machine term x as a plain integer z with |z| ≤ B, where the tests `ok` on the way pass. The tests are gathered in a Bool, and computed once, at the end
pub record Tr (x : ℤ) : Type 0 where
  pub z : ℤ
  pub B : ℕ
  pub ok : Bool
  pub is : T ok → x ≡ z
  pub bd : nat_abs z ≤ B

infixr 5 ◌&◌
abbrev pub ◌&◌ : Bool → Bool → Bool
true & b = b
false & b = false

pub &-l : (a b : Bool) → T (a & b) → T a
&-l true b t = tt
&-l false b t = t

pub &-r : (a b : Bool) → T (a & b) → T b
&-r true b t = t
&-r false b t = absurd t

abbrev pub tr-+ : {x y : ℤ} → Tr x → Tr y → Tr (x +ℤ y)
tr-+ a b = record { z = a.z +ℤ b.z; B = a.B + b.B; ok = a.ok & b.ok; is = λ t i. a.is (&-l a.ok b.ok t) i +ℤ b.is (&-r a.ok b.ok t) i; bd = bd-+ a.z b.z a.B b.B a.bd b.bd }

abbrev pub tr-* : {x y : ℤ} → Tr x → Tr y → Tr (x *ℤ y)
tr-* a b = record { z = a.z *ℤ b.z; B = a.B * b.B; ok = a.ok & b.ok; is = λ t i. a.is (&-l a.ok b.ok t) i *ℤ b.is (&-r a.ok b.ok t) i; bd = bd-* a.z b.z a.B b.B a.bd b.bd }

abbrev pub tr_neg : {x : ℤ} → Tr x → Tr (neg_ℤ x)
tr_neg a = record { z = neg_ℤ a.z; B = a.B; ok = a.ok; is = λ t i. neg_ℤ (a.is t i); bd = le_trans (le_of_eq (abs_neg a.z)) a.bd }

abbrev pub tr_quot : {x y : ℤ} → Tr x → Tr y → Tr (quot_z x y)
tr_quot a b = record { z = quot_z a.z b.z; B = a.B; ok = a.ok & b.ok; is = λ t i. quot_z (a.is (&-l a.ok b.ok t) i) (b.is (&-r a.ok b.ok t) i); bd = bd_quot a.z b.z a.B a.bd }

abbrev pub tr_rem : {x y : ℤ} → Tr x → Tr y → Tr (rem_z x y)
tr_rem a b = record { z = rem_z a.z b.z; B = a.B; ok = a.ok & b.ok; is = λ t i. rem_z (a.is (&-l a.ok b.ok t) i) (b.is (&-r a.ok b.ok t) i); bd = bd-rem a.z b.z a.B a.bd }

-- a literal, and an atom whose bound is a hypothesis
abbrev pub tr_pos : {n : ℕ} → Tr (pos n)
tr_pos {n} = record { z = pos n; B = n; ok = true; is = λ _. refl; bd = le_refl n }

abbrev pub tr_negsuc : {n : ℕ} → Tr (negsuc n)
tr_negsuc {n} = record { z = negsuc n; B = suc n; ok = true; is = λ _. refl; bd = le_refl (suc n) }

abbrev pub tr_atom : {x : ℤ} {B : ℕ} → nat_abs x ≤ B → Tr x
tr_atom {x} {B} h = record { z = x; B = B; ok = true; is = λ _. refl; bd = h }

-- the same with a bound by <
abbrev pub tr-atom< : {x : ℤ} {B : ℕ} → nat_abs x < B → Tr x
tr-atom< {x} {B} h = record { z = x; B = pred B; ok = true; is = λ _. refl; bd = le-pred_of_lt h }

-- what the machine reads back
pub back_is : (w : Width) {x : ℤ} (a : Tr x) → T (a.ok & ltb a.B (2 ^ hbits w)) → to_z w (of_z w x) ≡ a.z
back_is w {x} a t =
    ap (λ (y : ℤ). to_z w (of_z w y)) (a.is (&-l a.ok _ t)) ∙ to_z-of_z w a.z (sfits-abs a.B a.bd (&-r a.ok _ t))

abbrev pub tr_back : (w : Width) {x : ℤ} → Tr x → Tr (to_z w (of_z w x))
tr_back w a = record { z = a.z; B = a.B; ok = a.ok & ltb a.B (2 ^ hbits w); is = back_is w a; bd = a.bd }

-- the same for an atom of which only the type's range is known
abbrev pub tr_sfits : (w : Width) {x : ℤ} → SFits w x → Tr (to_z w (of_z w x))
tr_sfits w {x} f = record { z = x; B = 2 ^ hbits w; ok = true; is = λ _. to_z-of_z w x f; bd = nat_abs-le x f.sfits }

pub ruleset tr = (tr_back, tr-+, tr-*, tr_neg, tr_quot, tr_rem, tr_pos, tr_negsuc, tr_atom, tr-atom<)

-- where the range of the type is all that is known of the atoms, as in a comparison. Apart, since `search` would take `tr_sfits` for an atom that has a bound too
pub ruleset trs = (tr_sfits, tr)

pub fits : {w : Width} {x : ℤ} (a : Tr x) → T (a.ok & ltb a.B (2 ^ hbits w)) → SFits w x
fits {w} {x} a t = subst (λ (y : ℤ). SFits w y) (sym (a.is (&-l a.ok _ t))) (sfits-abs a.B a.bd (&-r a.ok _ t))

pub plain : {x : ℤ} (a : Tr x) → T a.ok → x ≡ a.z
plain a t = a.is t
