-- Signed tests. A signed `if x < y` hands its arms an equation of the flag, `lt_z x y ≡ true` (`.taken`) or `≡ false` (`.left`), of machine terms; `TrB`
-- reads it as one of plain terms. In order: a `cond` by its test; `TrB` and the sets `trb` and `trbs`; `test`, `taken` and `left`. What for: see Mach.
-- Assumes nothing.
use Rattle.std.specs.Prelude.{◌≡◌, refl, Bool, true, false, not, cond, T, ℤ, ◌<ℤ◌}
use Rattle.std.proofs.Common.{sym, ◌∙◌, ap}
use Rattle.std.specs.Int.Signed.{non_neg, lt_z, le_z}
use Rattle.exact.specs.Terms.{Tr, ◌&◌, &-l, &-r, tr, trs}
use Rattle.exact.specs.Tests.{holds, fails, false_of, le_f}

-- a `cond` of a contract, by its test
pub cond_yes : (b : Bool) (x y : Bool) → T b → cond b x y ≡ x
cond_yes true x y t = refl
cond_yes false x y t = absurd t

pub cond_no : (b : Bool) (x y : Bool) → (T b → ⊥) → cond b x y ≡ y
cond_no true x y f = absurd (f tt)
cond_no false x y f = refl

-- a machine test b as the plain test p
pub record TrB (b : Bool) : Type 0 where
  pub p : Bool
  pub ok : Bool
  pub is : T ok → b ≡ p

abbrev pub tr_lt : {x y : ℤ} → Tr x → Tr y → TrB (lt_z x y)
tr_lt a b = record { p = lt_z a.z b.z; ok = a.ok & b.ok; is = λ t i. lt_z (a.is (&-l a.ok b.ok t) i) (b.is (&-r a.ok b.ok t) i) }

abbrev pub tr_le : {x y : ℤ} → Tr x → Tr y → TrB (le_z x y)
tr_le a b = record { p = le_z a.z b.z; ok = a.ok & b.ok; is = λ t i. le_z (a.is (&-l a.ok b.ok t) i) (b.is (&-r a.ok b.ok t) i) }

abbrev pub tr_not : {b : Bool} → TrB b → TrB (not b)
tr_not a = record { p = not a.p; ok = a.ok; is = λ t. ap not (a.is t) }

abbrev pub tr_non_neg : {x : ℤ} → Tr x → TrB (non_neg x)
tr_non_neg a = record { p = non_neg a.z; ok = a.ok; is = λ t. ap non_neg (a.is t) }

pub ruleset trb = (tr_lt, tr_le, tr_not, tr_non_neg, tr)

-- where the range of the type is all that is known
pub ruleset trbs = (tr_lt, tr_le, tr_not, trs)

-- the test itself, in plain terms
pub test : {b : Bool} (a : TrB b) → T a.ok → b ≡ a.p
test a t = a.is t

-- the test passed, or failed. `lt_z_yes`, `le_z_yes`, `lt_z_no` of `lib.Signed`, and `le_z_no`, take these to facts of order
pub taken : {b : Bool} → b ≡ true → (a : TrB b) → T a.ok → T a.p
taken e a t = holds (sym (a.is t) ∙ e)

pub left : {b : Bool} → b ≡ false → (a : TrB b) → T a.ok → T (not a.p)
left e a t = fails (sym (a.is t) ∙ e)

pub le_z_no : {a b : ℤ} → T (not (le_z a b)) → b <ℤ a
le_z_no {a} {b} t = le_f a b (false_of t)
