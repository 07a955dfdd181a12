-- The Boolean tests as facts and back, in three parts: Bools by themselves; the tests `lt_z`, `le_z`, `eq_z` of whole numbers; each of those as a test of the
-- sign of a difference. Assumes nothing.
use Rattle.std.specs.Prelude.{◌≡◌, refl, Bool, true, false, not, ◌&&◌, ◌||◌, [], ◌∷◌, ◌⊎◌, ℕ, T, eqb, ℤ, pos, negsuc, ◌-ℤ◌, ◌≤ℤ◌, ◌<ℤ◌}
use Rattle.std.proofs.Common.{sym, ap, subst, inl, inr, ⊎_elim, arith, eqb→eq}
use Rattle.std.proofs.Math.Dec.{eqb_refl}
use Rattle.std.specs.Int.Signed.{lt_z, le_z}
use Rattle.exact.specs.Order.{zomega, sq, ≤-or-<, ≤→≯}
use Rattle.exact.specs.Sign.{Sign, sgn, Sg, is_neg_lem, is_zer_lem, is_plus_lem, sg, is_neg, is_zer, is_plus}

-- ---- Bool
pub clash : {b : Bool} → b ≡ true → b ≡ false → ⊥
clash {b} e f = let z : ◌≡◌ {A = ℕ} 0 1 = cc in omega arith

pub never {ℓ} : {A : Type ℓ} → false ≡ true → A
never e = absurd (clash e refl)

pub not-false : (b : Bool) → (b ≡ false → ⊥) → b ≡ true
not-false true h = refl
not-false false h = absurd (h refl)

pub not-true : (b : Bool) → (b ≡ true → ⊥) → b ≡ false
not-true true h = absurd (h refl)
not-true false h = refl

pub way : (b : Bool) → (b ≡ true) ⊎ (b ≡ false)
way true = inl refl
way false = inr refl

pub T_true : (b : Bool) → T b → b ≡ true
T_true true t = refl
T_true false t = absurd t

pub true_T : {b : Bool} → b ≡ true → T b
true_T e = subst T (sym e) tt

pub holds : {b : Bool} → b ≡ true → T b
holds e = true_T e

pub fails : {b : Bool} → b ≡ false → T (not b)
fails e = subst (λ (t : Bool). T (not t)) (sym e) tt

pub true_of : {b : Bool} → T b → b ≡ true
true_of {b} t = T_true b t

pub false_of : {b : Bool} → T (not b) → b ≡ false
false_of {b = true} t = absurd t
false_of {b = false} t = refl

pub bool_iff : (b c : Bool) → (T b → T c) → (T c → T b) → b ≡ c
bool_iff true true f g = refl
bool_iff true false f g = absurd (f tt)
bool_iff false true f g = absurd (g tt)
bool_iff false false f g = refl

pub or_l : {a : Bool} (b : Bool) → a ≡ true → (a || b) ≡ true
or_l b e = rw e

pub or_r : (a : Bool) {b : Bool} → b ≡ true → (a || b) ≡ true
or_r true e = refl
or_r false e = e

pub or_cases : (a b : Bool) → (a || b) ≡ true → (a ≡ true) ⊎ (b ≡ true)
or_cases true b e = inl refl
or_cases false b e = inr e

pub or_false : (a b : Bool) → (a || b) ≡ false → (a ≡ false) × (b ≡ false)
or_false true b e = absurd (clash refl e)
or_false false b e = (refl, e)

pub false_or : {a b : Bool} → a ≡ false → b ≡ false → (a || b) ≡ false
false_or e f = rw (e, f)

pub and_both : {a b : Bool} → a ≡ true → b ≡ true → (a && b) ≡ true
and_both e f = rw (e, f)

pub and_parts : (a b : Bool) → (a && b) ≡ true → (a ≡ true) × (b ≡ true)
and_parts true b e = (refl, e)
and_parts false b e = absurd (clash e refl)

-- ---- tests of order
pub lt_t : {a b : ℤ} → lt_z a b ≡ true → a <ℤ b
lt_t e = record { lt = true_T e }

pub t_lt : {a b : ℤ} → a <ℤ b → lt_z a b ≡ true
t_lt {a} {b} h = T_true (lt_z a b) h.lt

pub le_t : {a b : ℤ} → le_z a b ≡ true → a ≤ℤ b
le_t e = record { le = true_T e }

pub t_le : {a b : ℤ} → a ≤ℤ b → le_z a b ≡ true
t_le {a} {b} h = T_true (le_z a b) h.le

pub f_lt : {a b : ℤ} → b ≤ℤ a → lt_z a b ≡ false
f_lt {a} {b} h = not-true (lt_z a b) (λ e. ≤→≯ h (lt_t e))

pub lt_f : (a b : ℤ) → lt_z a b ≡ false → b ≤ℤ a
lt_f a b e = ⊎_elim (λ h. h) (λ h. absurd (clash (t_lt h) e)) (≤-or-< b a)

pub f_le : {a b : ℤ} → b <ℤ a → le_z a b ≡ false
f_le {a} {b} h = not-true (le_z a b) (λ e. ≤→≯ (le_t e) h)

pub le_f : (a b : ℤ) → le_z a b ≡ false → b <ℤ a
le_f a b e = ⊎_elim (λ h. absurd (clash (t_le h) e)) (λ h. h) (≤-or-< a b)

-- ---- the test of equality
abbrev pub eq_z : ℤ → ℤ → Bool
eq_z (pos a) (pos b) = eqb a b
eq_z (pos a) (negsuc b) = false
eq_z (negsuc a) (pos b) = false
eq_z (negsuc a) (negsuc b) = eqb a b

eq_z→' : (a b : ℤ) → T (eq_z a b) → a ≡ b
eq_z→' (pos a) (pos b) t = ap pos (eqb→eq a b t)
eq_z→' (pos a) (negsuc b) t = absurd t
eq_z→' (negsuc a) (pos b) t = absurd t
eq_z→' (negsuc a) (negsuc b) t = ap negsuc (eqb→eq a b t)

pub eq_z→ : {a b : ℤ} → T (eq_z a b) → a ≡ b
eq_z→ {a} {b} t = eq_z→' a b t

eq_z-refl : (a : ℤ) → T (eq_z a a)
eq_z-refl (pos a) = eqb_refl a
eq_z-refl (negsuc a) = eqb_refl a

pub →eq_z : {a b : ℤ} → a ≡ b → T (eq_z a b)
→eq_z {a} {b} e = subst (λ (c : ℤ). T (eq_z a c)) e (eq_z-refl a)

pub eq_t : (a b : ℤ) → eq_z a b ≡ true → a ≡ b
eq_t a b e = eq_z→ (true_T e)

pub t_eq : {a b : ℤ} → a ≡ b → eq_z a b ≡ true
t_eq {a} {b} e = T_true (eq_z a b) (→eq_z e)

-- ---- as tests of signs
module _ (a b : ℤ) where
  pub lt-sign : lt_z a b ≡ is_neg (sgn (a -ℤ b))
  lt-sign = go (sg (a -ℤ b))
    where
      go : {s : Sign} → Sg (a -ℤ b) s → lt_z a b ≡ is_neg s
      go (is_neg_lem h) = t_lt (zomega (a ∷ b ∷ []) {A = (a -ℤ b) <ℤ pos 0 → a <ℤ b} (search sq depth 20) (omega arith) h)
      go (is_zer_lem h) = f_lt (zomega (a ∷ b ∷ []) {A = a -ℤ b ≡ pos 0 → b ≤ℤ a} (search sq depth 20) (omega arith) h)
      go (is_plus_lem h) = f_lt (zomega (a ∷ b ∷ []) {A = pos 0 <ℤ (a -ℤ b) → b ≤ℤ a} (search sq depth 20) (omega arith) h)

  pub gt-sign : lt_z b a ≡ is_plus (sgn (a -ℤ b))
  gt-sign = go (sg (a -ℤ b))
    where
      go : {s : Sign} → Sg (a -ℤ b) s → lt_z b a ≡ is_plus s
      go (is_neg_lem h) = f_lt (zomega (a ∷ b ∷ []) {A = (a -ℤ b) <ℤ pos 0 → a ≤ℤ b} (search sq depth 20) (omega arith) h)
      go (is_zer_lem h) = f_lt (zomega (a ∷ b ∷ []) {A = a -ℤ b ≡ pos 0 → a ≤ℤ b} (search sq depth 20) (omega arith) h)
      go (is_plus_lem h) = t_lt (zomega (a ∷ b ∷ []) {A = pos 0 <ℤ (a -ℤ b) → b <ℤ a} (search sq depth 20) (omega arith) h)

  pub eq-sign : eq_z a b ≡ is_zer (sgn (a -ℤ b))
  eq-sign = go (sg (a -ℤ b))
    where
      go : {s : Sign} → Sg (a -ℤ b) s → eq_z a b ≡ is_zer s
      go (is_neg_lem h) = not-true (eq_z a b) (λ e. zomega (a ∷ b ∷ []) {A = (a -ℤ b) <ℤ pos 0 → a ≡ b → ⊥} (search sq depth 20) (omega arith) h (eq_t a b e))
      go (is_zer_lem h) = t_eq (zomega (a ∷ b ∷ []) {A = a -ℤ b ≡ pos 0 → a ≡ b} (search sq depth 20) (omega arith) h)
      go (is_plus_lem h) = not-true (eq_z a b) (λ e. zomega (a ∷ b ∷ []) {A = pos 0 <ℤ (a -ℤ b) → a ≡ b → ⊥} (search sq depth 20) (omega arith) h (eq_t a b e))
