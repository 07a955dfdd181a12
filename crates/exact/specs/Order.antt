-- The order of ℤ (`lib.Signed`) and its laws, in which order: transitive, antisymmetric, monotone; a ≤ b as 0 ≤ b - a; signs of differences and negations; three ways, `Tri`; the sign of a number;
-- products of what is positive, and no zero divisors. The names of Parts and Linear (`zomega`) are passed on.
-- The fixity of _≤ℤ_ and _<ℤ_ is 50, so a sum beside one stands in parentheses. Assumes nothing.
use Rattle.std.specs.Prelude.{◌≡◌, refl, [], ◌∷◌, ◌⊎◌, ℕ, zero, suc, ◌+◌, ◌*◌, ◌<◌, ℤ, pos, negsuc, neg_ℤ, nat_abs, ◌+ℤ◌, ◌-ℤ◌, ◌*ℤ◌, ◌≤ℤ◌, ◌<ℤ◌}
use Rattle.std.proofs.Common.{sym, ◌∙◌, ap, inl, inr, ⊎_elim, mul-pos, arith}
use Rattle.exact.specs.Abs.{abs-*}
pub use Rattle.exact.specs.Parts.{pp, np, ≤-to, ≤-of, <-to, <-of, ≡-to, ≡-of, pos-≤, ≤-pos, pos-<, <-pos, 0≤pos, pos≮0, Is, is-+, is_neg_lem, is-*}
pub use Rattle.exact.specs.Linear.{is_sum, p_c, n_c, p_m, n_m, p_t, n_t, P, N, Sq, ≤to, ≤of, <to, <of, ≡to, ≡of, sq≤, sq<, sq≡, sq→, sq×, sq⊥, sq, zomega}
pub use Rattle.exact.specs.Exact.{Sign, neg, zer, plus, sgn}

-- ---- by `zomega`
pub ≤_trans : {a b c : ℤ} → a ≤ℤ b → b ≤ℤ c → a ≤ℤ c
≤_trans {a} {b} {c} = zomega (a ∷ b ∷ c ∷ []) (search sq depth 20) (omega arith)

pub <-trans : {a b c : ℤ} → a <ℤ b → b <ℤ c → a <ℤ c
<-trans {a} {b} {c} = zomega (a ∷ b ∷ c ∷ []) (search sq depth 20) (omega arith)

pub ≤-<-trans : {a b c : ℤ} → a ≤ℤ b → b <ℤ c → a <ℤ c
≤-<-trans {a} {b} {c} = zomega (a ∷ b ∷ c ∷ []) (search sq depth 20) (omega arith)

pub <-≤-trans : {a b c : ℤ} → a <ℤ b → b ≤ℤ c → a <ℤ c
<-≤-trans {a} {b} {c} = zomega (a ∷ b ∷ c ∷ []) (search sq depth 20) (omega arith)

pub <→≤ : {a b : ℤ} → a <ℤ b → a ≤ℤ b
<→≤ {a} {b} = zomega (a ∷ b ∷ []) (search sq depth 20) (omega arith)

pub ≤-antisym : {a b : ℤ} → a ≤ℤ b → b ≤ℤ a → a ≡ b
≤-antisym {a} {b} = zomega (a ∷ b ∷ []) (search sq depth 20) (omega arith)

pub ≤-of-≡ : {a b : ℤ} → a ≡ b → a ≤ℤ b
≤-of-≡ {a} {b} = zomega (a ∷ b ∷ []) (search sq depth 20) (omega arith)

pub <→≢ : {a b : ℤ} → a <ℤ b → a ≡ b → ⊥
<→≢ {a} {b} = zomega (a ∷ b ∷ []) (search sq depth 20) (omega arith)

pub ≤→≯ : {a b : ℤ} → a ≤ℤ b → b <ℤ a → ⊥
≤→≯ {a} {b} = zomega (a ∷ b ∷ []) (search sq depth 20) (omega arith)

pub +-mono : {a b c d : ℤ} → a ≤ℤ b → c ≤ℤ d → (a +ℤ c) ≤ℤ (b +ℤ d)
+-mono {a} {b} {c} {d} = zomega (a ∷ b ∷ c ∷ d ∷ []) (search sq depth 20) (omega arith)

pub +-mono-< : {a b c d : ℤ} → a <ℤ b → c ≤ℤ d → (a +ℤ c) <ℤ (b +ℤ d)
+-mono-< {a} {b} {c} {d} = zomega (a ∷ b ∷ c ∷ d ∷ []) (search sq depth 20) (omega arith)

pub neg-mono : {a b : ℤ} → a ≤ℤ b → neg_ℤ b ≤ℤ neg_ℤ a
neg-mono {a} {b} = zomega (a ∷ b ∷ []) (search sq depth 20) (omega arith)

-- a ≤ b is 0 ≤ b - a, and so for <
pub ≤→0≤ : {a b : ℤ} → a ≤ℤ b → pos 0 ≤ℤ (b -ℤ a)
≤→0≤ {a} {b} = zomega (a ∷ b ∷ []) (search sq depth 20) (omega arith)

pub 0≤→≤ : (a b : ℤ) → pos 0 ≤ℤ (b -ℤ a) → a ≤ℤ b
0≤→≤ a b = zomega (a ∷ b ∷ []) (search sq depth 20) (omega arith)

pub <→0< : {a b : ℤ} → a <ℤ b → pos 0 <ℤ (b -ℤ a)
<→0< {a} {b} = zomega (a ∷ b ∷ []) (search sq depth 20) (omega arith)

pub 0<→< : (a b : ℤ) → pos 0 <ℤ (b -ℤ a) → a <ℤ b
0<→< a b = zomega (a ∷ b ∷ []) (search sq depth 20) (omega arith)

-- there is no number between a and b = a + 1
pub less_gap : (a b : ℤ) → a <ℤ b → pos 0 ≤ℤ (b -ℤ a -ℤ pos 1)
less_gap a b = zomega (a ∷ b ∷ []) (search sq depth 20) (omega arith)

-- ---- the sign of a difference and of a negation
pub less_neg : (a b : ℤ) → a <ℤ b → (a -ℤ b) <ℤ pos 0
less_neg a b = zomega (a ∷ b ∷ []) (search sq depth 20) (omega arith)

pub neg_less : (a b : ℤ) → (a -ℤ b) <ℤ pos 0 → a <ℤ b
neg_less a b = zomega (a ∷ b ∷ []) (search sq depth 20) (omega arith)

pub sub_back : (a b : ℤ) → b -ℤ a ≡ neg_ℤ (a -ℤ b)
sub_back a b = zomega (a ∷ b ∷ []) (search sq depth 20) (omega arith)

pub 0<-neg : (a : ℤ) → a <ℤ pos 0 → pos 0 <ℤ neg_ℤ a
0<-neg a = zomega (a ∷ []) (search sq depth 20) (omega arith)

pub neg-<0 : (a : ℤ) → pos 0 <ℤ neg_ℤ a → a <ℤ pos 0
neg-<0 a = zomega (a ∷ []) (search sq depth 20) (omega arith)

pub zero-neg : (a : ℤ) → a ≡ pos 0 → neg_ℤ a ≡ pos 0
zero-neg a = zomega (a ∷ []) (search sq depth 20) (omega arith)

pub neg-zero : (a : ℤ) → neg_ℤ a ≡ pos 0 → a ≡ pos 0
neg-zero a = zomega (a ∷ []) (search sq depth 20) (omega arith)

pub pos-once : (a b : ℕ) → pos a ≡ pos b → a ≡ b
pos-once a b e = cc

-- ---- three ways
pub data Tri (a b : ℤ) : Type 0 where
  lt : a <ℤ b → Tri a b
  eq : a ≡ b → Tri a b
  gt : b <ℤ a → Tri a b

pub tri : (a b : ℤ) → Tri a b
tri a b = go (triℕ (pp a + np b) (pp b + np a))
  where
    triℕ : (m n : ℕ) → (m < n) ⊎ ((m ≡ n) ⊎ (n < m))
    triℕ zero zero = inr (inl refl)
    triℕ zero (suc n) = inl (omega arith)
    triℕ (suc m) zero = inr (inr (omega arith))
    triℕ (suc m) (suc n) = ⊎_elim (λ h. inl (omega arith)) (λ w. inr (⊎_elim (λ e. inl (ap suc e)) (λ h. inr (omega arith)) w)) (triℕ m n)

    go : (pp a + np b < pp b + np a) ⊎ ((pp a + np b ≡ pp b + np a) ⊎ (pp b + np a < pp a + np b)) → Tri a b
    go (inl h) = lt (<-of a b h)
    go (inr (inl e)) = eq (≡-of a b e)
    go (inr (inr h)) = gt (<-of b a h)

pub ≤-or-< : (a b : ℤ) → (a ≤ℤ b) ⊎ (b <ℤ a)
≤-or-< a b = go (tri a b)
  where
    go : Tri a b → (a ≤ℤ b) ⊎ (b <ℤ a)
    go (lt h) = inl (<→≤ h)
    go (eq e) = inl (≤-of-≡ e)
    go (gt h) = inr h

-- the sign of an integer
pub sgn-plus : {z : ℤ} → pos 0 <ℤ z → sgn z ≡ plus
sgn-plus {z = pos zero} h = absurd h.lt
sgn-plus {z = pos (suc n)} h = refl
sgn-plus {z = negsuc n} h = absurd h.lt

pub sgn-neg : {z : ℤ} → z <ℤ pos 0 → sgn z ≡ neg
sgn-neg {z = pos n} h = absurd (pos≮0 n h)
sgn-neg {z = negsuc n} h = refl

-- ---- products
pub 0≤-* : {a b : ℤ} → pos 0 ≤ℤ a → pos 0 ≤ℤ b → pos 0 ≤ℤ (a *ℤ b)
0≤-* {a = pos a} {b = pos b} h l = 0≤pos (a * b)
0≤-* {a = pos a} {b = negsuc b} h l = absurd l.le
0≤-* {a = negsuc a} {b} h l = absurd h.le

pub 0<-* : {a b : ℤ} → pos 0 <ℤ a → pos 0 <ℤ b → pos 0 <ℤ (a *ℤ b)
0<-* {a = pos a} {b = pos b} h l = pos-< 0 (a * b) (mul-pos (<-pos 0 a h) (<-pos 0 b l))
0<-* {a = pos a} {b = negsuc b} h l = absurd l.lt
0<-* {a = negsuc a} {b} h l = absurd h.lt

-- no zero divisors
pub *-zero : (a b : ℤ) → a *ℤ b ≡ pos 0 → (a ≡ pos 0) ⊎ (b ≡ pos 0)
*-zero a b e = go (nat_abs a) (nat_abs b) refl refl
  where
    zero_of : (z : ℤ) → nat_abs z ≡ 0 → z ≡ pos 0
    zero_of (pos n) e = ap pos e
    zero_of (negsuc n) e = absurd (no n e)
      where
        no : (n : ℕ) → suc n ≡ 0 → ⊥
        no n e = omega arith

    no : (m n : ℕ) → suc m * suc n ≡ 0 → ⊥
    no m n e = omega arith

    go : (m n : ℕ) → nat_abs a ≡ m → nat_abs b ≡ n → (a ≡ pos 0) ⊎ (b ≡ pos 0)
    go zero n p q = inl (zero_of a p)
    go (suc m) zero p q = inr (zero_of b q)
    go (suc m) (suc n) p q = absurd (no m n ((λ i. sym p i * sym q i) ∙ sym (abs-* a b) ∙ ap nat_abs e))
