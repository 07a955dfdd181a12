-- Casts, and the bits of signed numbers. In order: an unsigned number as a signed one, the set `trn`; the bits of a term, `TrN`, and tests of bits,
-- the set `trbits`; a divisor; a signed number as an unsigned one, `TrU`, the set `tru`, and bounds for what a callee requires; the upper half of the bits.
-- What for: see Mach. Assumes nothing.
use Rattle.std.specs.Prelude.{◌≡◌, refl, Bool, true, false, ℕ, zero, suc, ◌-◌, ◌^◌, ◌≤◌, ◌<◌, T, ltb, leb, eqb, ℤ, pos, negsuc, neg_ℤ, nat_abs, ◌-ℤ◌, ◌≤ℤ◌}
use Rattle.std.proofs.Common.{sym, ◌∙◌, ap, subst, le_trans, lt_of_le_of_lt, lt_of_lt_of_le, le_of_lt, arith, eqb→eq, ltb→lt, leb→le}
use Rattle.std.proofs.Math.Dec.{eqb_refl}
use Rattle.std.specs.Int.Signed.{non_neg, yes_non_neg}
use Rattle.std.specs.Int.{Width, w16, w32, w64}
use mir.Val.{Fits, SFits, to_z, of_z, sel, bits, hbits}
use mir.ValLaws.{to_z-of_z, of_z-to_z, to_z-Fits, to_z_pos, pow-bits}
use Rattle.exact.specs.Parts.{is-+, is_neg_lem, ≡-of}
use Rattle.exact.specs.Tests.{eq_z, eq_z→, →eq_z, bool_iff}
use Rattle.exact.specs.Terms.{Tr, ◌&◌, &-l, &-r, sfits-abs, tr}
use Rattle.exact.specs.Flags.{TrB, trb}

-- ---- an unsigned number as a signed one
-- a natural number that was cast: `x as i64` of an unsigned x is  to_z w64 x
pub nat-is : (w : Width) (n B : ℕ) → n < B → T (leb B (2 ^ hbits w)) → to_z w n ≡ pos n
nat-is w n B h t = to_z_pos w n (lt_of_lt_of_le h (leb→le B (2 ^ hbits w) t))

abbrev pub tr_nat : (w : Width) {n B : ℕ} → n < B → Tr (to_z w n)
tr_nat w {n} {B} h = record { z = pos n; B = B; ok = leb B (2 ^ hbits w); is = nat-is w n B h; bd = le_of_lt h }

pub ruleset trn = (tr_nat, tr)

-- ---- the bits n are those of a plain integer z
pub record TrN (w : Width) (n : ℕ) : Type 0 where
  pub z : ℤ
  pub ok : Bool
  pub is : T ok → n ≡ of_z w z
  pub sf : T ok → SFits w z

-- the bits of a machine term, and a literal's
abbrev pub trn_of : {w : Width} {x : ℤ} → Tr x → TrN w (of_z w x)
trn_of {w} a =
    record { z = a.z; ok = a.ok & ltb a.B (2 ^ hbits w); is = λ t. ap (of_z w) (a.is (&-l a.ok _ t)); sf = λ t. sfits-abs a.B a.bd (&-r a.ok _ t) }

abbrev pub trn_sfits : {w : Width} {x : ℤ} → SFits w x → TrN w (of_z w x)
trn_sfits {w} {x} f = record { z = x; ok = true; is = λ _. refl; sf = λ _. f }

pub lit_is : (w : Width) (n : ℕ) → T (ltb n (2 ^ bits w)) → n ≡ of_z w (to_z w n)
lit_is w n t = sym (of_z-to_z w n (record { fits = ltb→lt n (2 ^ bits w) t }))

pub lit_fits : (w : Width) (n : ℕ) → T (ltb n (2 ^ bits w)) → SFits w (to_z w n)
lit_fits w n t = to_z-Fits w n (record { fits = ltb→lt n (2 ^ bits w) t })

abbrev pub trn_lit : {w : Width} {n : ℕ} → T (ltb n (2 ^ bits w)) → TrN w n
trn_lit {w} {n} t = record { z = to_z w n; ok = true; is = λ _. lit_is w n t; sf = λ _. lit_fits w n t }

-- `if x == y` on signed locals tells of the bits, n ≡ m or n ≡ m → ⊥
pub eq_yes : (w : Width) {n m : ℕ} → n ≡ m → (a : TrN w n) (b : TrN w m) → T (a.ok & b.ok) → a.z ≡ b.z
eq_yes w e a b t =
    let ta = &-l a.ok b.ok t in
    let tb = &-r a.ok b.ok t in
    sym (to_z-of_z w a.z (a.sf ta)) ∙ ap (to_z w) (sym (a.is ta) ∙ e ∙ b.is tb) ∙ to_z-of_z w b.z (b.sf tb)

pub eq_no : (w : Width) {n m : ℕ} → (n ≡ m → ⊥) → (a : TrN w n) (b : TrN w m) → T (a.ok & b.ok) → a.z ≡ b.z → ⊥
eq_no w f a b t e = f (a.is (&-l a.ok b.ok t) ∙ ap (of_z w) e ∙ sym (b.is (&-r a.ok b.ok t)))

-- a flag made by == is a test of the bits, and in plain terms `eq_z`
pub eqb_is : (w : Width) {n m : ℕ} (a : TrN w n) (b : TrN w m) → T (a.ok & b.ok) → eqb n m ≡ eq_z a.z b.z
eqb_is w {n} {m} a b t =
    bool_iff (eqb n m) (eq_z a.z b.z) (λ q. →eq_z (eq_yes w (eqb→eq n m q) a b t))
    (λ q. subst (λ (k : ℕ). T (eqb n k)) (a.is (&-l a.ok b.ok t) ∙ ap (of_z w) (eq_z→ {a = a.z} {b = b.z} q) ∙ sym (b.is (&-r a.ok b.ok t))) (eqb_refl n))

abbrev pub tr_eqb : (w : Width) {n m : ℕ} → TrN w n → TrN w m → TrB (eqb n m)
tr_eqb w a b = record { p = eq_z a.z b.z; ok = a.ok & b.ok; is = eqb_is w a b }

abbrev pub tr_eqb64 : {n m : ℕ} → TrN w64 n → TrN w64 m → TrB (eqb n m)
tr_eqb64 a b = tr_eqb w64 a b

abbrev pub tr_eqb32 : {n m : ℕ} → TrN w32 n → TrN w32 m → TrB (eqb n m)
tr_eqb32 a b = tr_eqb w32 a b

abbrev pub tr_eqb16 : {n m : ℕ} → TrN w16 n → TrN w16 m → TrB (eqb n m)
tr_eqb16 a b = tr_eqb w16 a b

pub ruleset trbits = (tr_eqb64, tr_eqb32, tr_eqb16, trn_of, trn_sfits, trn_lit, tt, tr)

-- ---- a divisor that is not 0 has bits that are not 0, as `/` and `%` ask beside the quotient's range
some_bits : (w : Width) (z : ℤ) → SFits w z → (z ≡ pos 0 → ⊥) → 0 < of_z w z
some_bits w (pos zero) f h = absurd (h refl)
some_bits w (pos (suc n)) f h = omega arith
some_bits w (negsuc n) f h = omega (arith, pow-bits w, f.sfits)

pub divisor : (w : Width) (y : ℤ) (b : Tr y) → T (b.ok & ltb b.B (2 ^ hbits w)) → (b.z ≡ pos 0 → ⊥) → 0 < of_z w y
divisor w y b t h =
    subst (λ (z : ℤ). 0 < of_z w z) (sym (b.is (&-l b.ok _ t))) (some_bits w b.z (sfits-abs b.B b.bd (&-r b.ok _ t)) h)

-- ---- a signed number to an unsigned type: it is not negative, and fits; and what the result is
pub record TrU (n : ℕ) : Type 0 where
  pub m : ℕ
  pub B : ℕ
  pub ok : Bool
  pub is : T ok → n ≡ m
  pub bd : m ≤ B

abbrev pub tru_abs : {x : ℤ} → Tr x → TrU (nat_abs x)
tru_abs a = record { m = nat_abs a.z; B = a.B; ok = a.ok; is = λ t. ap nat_abs (a.is t); bd = a.bd }

pub ruleset tru = (tru_abs, trb)

-- the term x is written out: neither `T` nor `non_neg` shows it. What is cast is  to_z w (of_z w x)
pub cast_u : (w w' : Width) (x : ℤ) (a : Tr x) → T (a.ok & ltb a.B (2 ^ hbits w) & ltb a.B (2 ^ bits w')) → pos 0 ≤ℤ a.z → T (non_neg (to_z w (of_z w x))) × Fits w' (nat_abs (to_z w (of_z w x)))
cast_u w w' x a t h =
    let t' = &-r a.ok _ t in
    let e : a.z ≡ to_z w (of_z w x) = sym (to_z-of_z w a.z (sfits-abs a.B a.bd (&-l (ltb a.B (2 ^ hbits w)) (ltb a.B (2 ^ bits w')) t'))) ∙ ap (λ (y : ℤ). to_z w (of_z w y)) (sym (a.is (&-l a.ok _ t))) in
    (subst (λ (y : ℤ). T (non_neg y)) e (yes_non_neg h), subst (λ (y : ℤ). Fits w' (nat_abs y)) e (record { fits = lt_of_le_of_lt a.bd (ltb→lt a.B (2 ^ bits w') (&-r (ltb a.B (2 ^ hbits w)) _ t')) }))

-- |x| is below K, for what a callee requires
pub under : {n K : ℕ} (u : TrU n) → T (u.ok & ltb u.B K) → n < K
under {n} {K} u t = subst (λ (k : ℕ). k < K) (sym (u.is (&-l u.ok _ t))) (lt_of_le_of_lt u.bd (ltb→lt u.B K (&-r u.ok _ t)))

pub atmost : {n K : ℕ} (u : TrU n) → T (u.ok & leb u.B K) → n ≤ K
atmost {n} {K} u t = subst (λ (k : ℕ). k ≤ K) (sym (u.is (&-l u.ok _ t))) (le_trans u.bd (leb→le u.B K (&-r u.ok _ t)))

pub cast_is : {n : ℕ} (u : TrU n) → T u.ok → n ≡ u.m
cast_is u t = u.is t

-- ---- the upper half of the bits, as a difference
pub to_z_high : (w : Width) (n : ℕ) → 2 ^ hbits w ≤ n → n < 2 ^ bits w → to_z w n ≡ pos n -ℤ pos (2 ^ bits w)
to_z_high w n h l = sel_no (ltb n (2 ^ hbits w)) _ _ (λ t. no (2 ^ hbits w) h (ltb→lt n (2 ^ hbits w) t)) ∙ high (2 ^ bits w) n l
  where
    no : (m : ℕ) → m ≤ n → n < m → ⊥
    no m h k = omega arith

    sel_no : (b : Bool) (x y : ℤ) → (T b → ⊥) → sel b x y ≡ y
    sel_no true x y f = absurd (f tt)
    sel_no false x y f = refl

    high : (m n : ℕ) → n < m → negsuc (m - suc n) ≡ pos n -ℤ pos m
    high m n h = ≡-of (negsuc (m - suc n)) (pos n -ℤ pos m) (omega (arith, is-+ (pos n) (neg_ℤ (pos m)), is_neg_lem (pos m)))
