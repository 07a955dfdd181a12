-- The two parts of a whole number: `pp z` and `np z` are the two natural numbers, one of them 0, whose difference is z. Every fact of ℤ is a fact of these:
-- a ≤ b is pp a + np b ≤ pp b + np a, and so for < and ≡; and `is-+`, `is_neg_lem`, `is-*` say what the parts of a sum, a negation and a product are.
-- So `omega`, which reads no ℤ, proves it. Assumes nothing.
use Rattle.std.specs.Prelude.{◌≡◌, refl, Bool, true, false, not, cond, ℕ, zero, suc, ◌+◌, ◌*◌, ◌-◌, ◌≤◌, ◌<◌, T, ltb, ℤ, pos, negsuc, neg_ℤ, ◌+ℤ◌, ◌*ℤ◌, ◌≤ℤ◌, ◌<ℤ◌}
use Rattle.std.proofs.Common.{ap, subst, arith, ltb→lt, nltb→le, leb→le, le→leb, lt→ltb}
use Rattle.std.proofs.Math.IntN.{sub_ℕ}
use Rattle.std.specs.Int.Signed.{le_z, lt_z}

-- ---- the parts
abbrev pub pp : ℤ → ℕ
pp (pos n) = n
pp (negsuc n) = 0

abbrev pub np : ℤ → ℕ
np (pos n) = 0
np (negsuc n) = suc n

-- ---- the order and equality, by the parts
≤-to' : (a b : ℤ) → T (le_z a b) → pp a + np b ≤ pp b + np a
≤-to' (pos a) (pos b) t = omega (arith, leb→le a b t)
≤-to' (pos a) (negsuc b) t = absurd t
≤-to' (negsuc a) (pos b) t = omega arith
≤-to' (negsuc a) (negsuc b) t = omega (arith, leb→le b a t)

≤-of' : (a b : ℤ) → pp a + np b ≤ pp b + np a → T (le_z a b)
≤-of' (pos a) (pos b) h = le→leb a b (omega arith)
≤-of' (pos a) (negsuc b) h = absurd (no_le a b h)
  where
    no_le : (a b : ℕ) → a + suc b ≤ 0 + 0 → ⊥
    no_le a b h = omega arith
≤-of' (negsuc a) (pos b) h = tt
≤-of' (negsuc a) (negsuc b) h = le→leb b a (omega arith)

<-to' : (a b : ℤ) → T (lt_z a b) → pp a + np b < pp b + np a
<-to' (pos a) (pos b) t = omega (arith, ltb→lt a b t)
<-to' (pos a) (negsuc b) t = absurd t
<-to' (negsuc a) (pos b) t = omega arith
<-to' (negsuc a) (negsuc b) t = omega (arith, ltb→lt b a t)

<-of' : (a b : ℤ) → pp a + np b < pp b + np a → T (lt_z a b)
<-of' (pos a) (pos b) h = lt→ltb a b (omega arith)
<-of' (pos a) (negsuc b) h = absurd (no_lt a b h)
  where
    no_lt : (a b : ℕ) → a + suc b < 0 + 0 → ⊥
    no_lt a b h = omega arith
<-of' (negsuc a) (pos b) h = tt
<-of' (negsuc a) (negsuc b) h = lt→ltb b a (omega arith)

pub ≤-to : (a b : ℤ) → a ≤ℤ b → pp a + np b ≤ pp b + np a
≤-to a b h = ≤-to' a b h.le

pub ≤-of : (a b : ℤ) → pp a + np b ≤ pp b + np a → a ≤ℤ b
≤-of a b h = record { le = ≤-of' a b h }

pub <-to : (a b : ℤ) → a <ℤ b → pp a + np b < pp b + np a
<-to a b h = <-to' a b h.lt

pub <-of : (a b : ℤ) → pp a + np b < pp b + np a → a <ℤ b
<-of a b h = record { lt = <-of' a b h }

-- of natural numbers
pub pos-≤ : (m n : ℕ) → m ≤ n → pos m ≤ℤ pos n
pos-≤ m n h = ≤-of (pos m) (pos n) (omega arith)

pub ≤-pos : (m n : ℕ) → pos m ≤ℤ pos n → m ≤ n
≤-pos m n h = omega (arith, ≤-to (pos m) (pos n) h)

pub pos-< : (m n : ℕ) → m < n → pos m <ℤ pos n
pos-< m n h = <-of (pos m) (pos n) (omega arith)

pub <-pos : (m n : ℕ) → pos m <ℤ pos n → m < n
<-pos m n h = omega (arith, <-to (pos m) (pos n) h)

pub 0≤pos : (n : ℕ) → pos 0 ≤ℤ pos n
0≤pos n = ≤-of (pos 0) (pos n) (omega arith)

-- what is not negative is not below 0
pub pos≮0 : (n : ℕ) → pos n <ℤ pos 0 → ⊥
pos≮0 n h = omega (arith, <-to (pos n) (pos 0) h)

pub ≡-to : (a b : ℤ) → a ≡ b → pp a + np b ≡ pp b + np a
≡-to a b e = subst (λ (x : ℤ). pp a + np x ≡ pp x + np a) e refl

pub ≡-of : (a b : ℤ) → pp a + np b ≡ pp b + np a → a ≡ b
≡-of (pos a) (pos b) h = ap pos (omega arith)
≡-of (pos a) (negsuc b) h = absurd (no_eq a b h)
  where
    no_eq : (a b : ℕ) → a + suc b ≡ 0 + 0 → ⊥
    no_eq a b h = omega arith
≡-of (negsuc a) (pos b) h = absurd (no_eq a b h)
  where
    no_eq : (a b : ℕ) → 0 + 0 ≡ b + suc a → ⊥
    no_eq a b h = omega arith
≡-of (negsuc a) (negsuc b) h = ap negsuc (omega arith)

-- ---- x is p - n: what the parts of a sum, a negation and a product are
abbrev pub Is : ℤ → ℕ → ℕ → Type 0
Is x p n = pp x + n ≡ np x + p

is_cond : (c : Bool) (x y : ℤ) (P : ℤ → Type 0) → (T c → P x) → (T (not c) → P y) → P (cond c x y)
is_cond true x y P f g = f tt
is_cond false x y P f g = g tt

is_sub : (a b : ℕ) → Is (sub_ℕ a b) a b
is_sub a b = is_cond (ltb a b) (negsuc (b - suc a)) (pos (a - b)) (λ (z : ℤ). Is z a b) (λ t. lo a b (ltb→lt a b t)) (λ t. hi a b (nltb→le a b t))
  where
    lo : (a b : ℕ) → a < b → 0 + b ≡ suc (b - suc a) + a
    lo a b h = omega arith

    hi : (a b : ℕ) → b ≤ a → (a - b) + b ≡ 0 + a
    hi a b h = omega arith

is_neg-pos : (r : ℕ) → Is (neg_ℤ (pos r)) 0 r
is_neg-pos zero = refl
is_neg-pos (suc r) = omega arith

pub is-+ : (x y : ℤ) → Is (x +ℤ y) (pp x + pp y) (np x + np y)
is-+ (pos a) (pos b) = omega arith
is-+ (pos a) (negsuc b) = omega (arith, is_sub a (suc b))
is-+ (negsuc a) (pos b) = omega (arith, is_sub b (suc a))
is-+ (negsuc a) (negsuc b) = omega arith

pub is_neg_lem : (x : ℤ) → Is (neg_ℤ x) (np x) (pp x)
is_neg_lem (pos zero) = refl
is_neg_lem (pos (suc n)) = omega arith
is_neg_lem (negsuc n) = omega arith

pub is-* : (x y : ℤ) → Is (x *ℤ y) (pp x * pp y + np x * np y) (pp x * np y + np x * pp y)
is-* (pos a) (pos b) = omega arith
is-* (pos a) (negsuc b) = omega (arith, is_neg-pos (a * suc b))
is-* (negsuc a) (pos b) = omega (arith, is_neg-pos (suc a * b))
is-* (negsuc a) (negsuc b) = omega arith
