-- Signs of whole numbers. In order: the tests on signs; a number's sign as evidence (`Sg`), and what keeps or turns it; which sign a sum can have (`sums`);
-- two numbers not of opposite signs. Then the sign of a pair (y, x) in point order, `lex_s`: that of y, or of x where y is 0. It is the sign of N·y + x for
-- every N greater than |x| (`mix`), and so the laws of signs hold for it:
--     lex-scalars   a·x + b·y = c·z for pairs x, y, z and positive numbers a, b, c
--     lex-pairs     a·x + b·y = c·z for positive pairs a, b, c and numbers x, y, z
-- `Sign` and `sgn` themselves are in Order, and are passed on. Assumes nothing.
use Rattle.std.specs.Prelude.{◌≡◌, refl, Bool, true, false, [], ◌∷◌, zero, suc, T, ℤ, pos, negsuc, neg_ℤ, nat_abs, ◌+ℤ◌, ◌-ℤ◌, ◌*ℤ◌, ◌≤ℤ◌, ◌<ℤ◌}
use Rattle.std.proofs.Common.{sym, ◌∙◌, ap, subst, zero-lt-suc, arith}
use Rattle.std.proofs.Math.IntN.{*ℤ-zero}
use Rattle.exact.specs.Solve.{ring, reify}
use Rattle.exact.specs.Order.{zomega, sq, ≤-of, pos-<, 0≤pos, 0≤-*, 0<-*}
use Rattle.exact.specs.Mul.{≡-by₁, ≡-by₂}
pub use Rattle.exact.specs.Order.{sgn-plus, sgn-neg}
pub use Rattle.exact.specs.Exact.{Sign, neg, zer, plus, sgn, is_neg, is_zer, is_plus, neg_s, pick, lex_s}

abbrev pub same : Sign → Sign → Bool
same neg s = is_neg s
same zer s = is_zer s
same plus s = is_plus s

-- ---- a number's sign, as evidence
pub data Sg (z : ℤ) : Sign → Type 0 where
  is_neg_lem : z <ℤ pos 0 → Sg z neg
  is_zer_lem : z ≡ pos 0 → Sg z zer
  is_plus_lem : pos 0 <ℤ z → Sg z plus

pub sg : (z : ℤ) → Sg z (sgn z)
sg (pos zero) = is_zer_lem refl
sg (pos (suc n)) = is_plus_lem (pos-< 0 (suc n) (zero-lt-suc n))
sg (negsuc n) = is_neg_lem (record { lt = tt })

pub sgn_is : (z : ℤ) {s : Sign} → Sg z s → sgn z ≡ s
sgn_is z (is_neg_lem h) = sgn-neg h
sgn_is z (is_zer_lem e) = ap sgn e
sgn_is z (is_plus_lem h) = sgn-plus h

-- a positive factor keeps the sign
pub sg-scale : (a x : ℤ) {s : Sign} → pos 0 <ℤ a → Sg x s → Sg (a *ℤ x) s
sg-scale a x p (is_neg_lem h) =
    is_neg_lem (zomega (a ∷ x ∷ []) {A = pos 0 <ℤ (a *ℤ neg_ℤ x) → (a *ℤ x) <ℤ pos 0} (search sq depth 20) (omega arith)
    (0<-* {a = a} {b = neg_ℤ x} p (zomega (x ∷ []) {A = x <ℤ pos 0 → pos 0 <ℤ neg_ℤ x} (search sq depth 20) (omega arith) h)))
sg-scale a x p (is_zer_lem e) = is_zer_lem (ap (λ (t : ℤ). a *ℤ t) e ∙ *ℤ-zero a)
sg-scale a x p (is_plus_lem h) = is_plus_lem (0<-* {a = a} {b = x} p h)

pub sg-neg : (z : ℤ) {s : Sign} → Sg z s → Sg (neg_ℤ z) (neg_s s)
sg-neg z (is_neg_lem h) = is_plus_lem (zomega (z ∷ []) {A = z <ℤ pos 0 → pos 0 <ℤ neg_ℤ z} (search sq depth 20) (omega arith) h)
sg-neg z (is_zer_lem h) = is_zer_lem (zomega (z ∷ []) {A = z ≡ pos 0 → neg_ℤ z ≡ pos 0} (search sq depth 20) (omega arith) h)
sg-neg z (is_plus_lem h) = is_neg_lem (zomega (z ∷ []) {A = pos 0 <ℤ z → neg_ℤ z <ℤ pos 0} (search sq depth 20) (omega arith) h)

pub sgn-negℤ : (z : ℤ) → sgn (neg_ℤ z) ≡ neg_s (sgn z)
sgn-negℤ z = sgn_is (neg_ℤ z) (sg-neg z (sg z))

-- ---- the sign of a sum
-- may a sum of numbers with the first two signs have the third?
abbrev pub sums : Sign → Sign → Sign → Bool
sums neg neg s = is_neg s
sums neg zer s = is_neg s
sums neg plus s = true
sums zer neg s = is_neg s
sums zer zer s = is_zer s
sums zer plus s = is_plus s
sums plus neg s = true
sums plus zer s = is_plus s
sums plus plus s = is_plus s

sums_of : (x y z : ℤ) {s t u : Sign} → x +ℤ y ≡ z → Sg x s → Sg y t → sgn z ≡ u → T (sums s t u)
sums_of x y z e (is_neg_lem p) (is_neg_lem q) w = subst (λ (r : Sign). T (is_neg r)) (sym (sgn-neg (zomega (x ∷ y ∷ z ∷ []) {A = x +ℤ y ≡ z → x <ℤ pos 0 → y <ℤ pos 0 → z <ℤ pos 0} (search sq depth 20) (omega arith) e p q)) ∙ w) tt
sums_of x y z e (is_neg_lem p) (is_zer_lem q) w = subst (λ (r : Sign). T (is_neg r)) (sym (sgn-neg (zomega (x ∷ y ∷ z ∷ []) {A = x +ℤ y ≡ z → x <ℤ pos 0 → y ≡ pos 0 → z <ℤ pos 0} (search sq depth 20) (omega arith) e p q)) ∙ w) tt
sums_of x y z e (is_neg_lem p) (is_plus_lem q) w = tt
sums_of x y z e (is_zer_lem p) (is_neg_lem q) w = subst (λ (r : Sign). T (is_neg r)) (sym (sgn-neg (zomega (x ∷ y ∷ z ∷ []) {A = x +ℤ y ≡ z → x ≡ pos 0 → y <ℤ pos 0 → z <ℤ pos 0} (search sq depth 20) (omega arith) e p q)) ∙ w) tt
sums_of x y z e (is_zer_lem p) (is_zer_lem q) w = subst (λ (r : Sign). T (is_zer r)) (sym (ap sgn (zomega (x ∷ y ∷ z ∷ []) {A = x +ℤ y ≡ z → x ≡ pos 0 → y ≡ pos 0 → z ≡ pos 0} (search sq depth 20) (omega arith) e p q)) ∙ w) tt
sums_of x y z e (is_zer_lem p) (is_plus_lem q) w = subst (λ (r : Sign). T (is_plus r)) (sym (sgn-plus (zomega (x ∷ y ∷ z ∷ []) {A = x +ℤ y ≡ z → x ≡ pos 0 → pos 0 <ℤ y → pos 0 <ℤ z} (search sq depth 20) (omega arith) e p q)) ∙ w) tt
sums_of x y z e (is_plus_lem p) (is_neg_lem q) w = tt
sums_of x y z e (is_plus_lem p) (is_zer_lem q) w = subst (λ (r : Sign). T (is_plus r)) (sym (sgn-plus (zomega (x ∷ y ∷ z ∷ []) {A = x +ℤ y ≡ z → pos 0 <ℤ x → y ≡ pos 0 → pos 0 <ℤ z} (search sq depth 20) (omega arith) e p q)) ∙ w) tt
sums_of x y z e (is_plus_lem p) (is_plus_lem q) w = subst (λ (r : Sign). T (is_plus r)) (sym (sgn-plus (zomega (x ∷ y ∷ z ∷ []) {A = x +ℤ y ≡ z → pos 0 <ℤ x → pos 0 <ℤ y → pos 0 <ℤ z} (search sq depth 20) (omega arith) e p q)) ∙ w) tt

-- the signs of x, y and z, where a·x + b·y = c·z with a, b, c > 0
pub sgn-sums : (a b c x y z : ℤ) → pos 0 <ℤ a → pos 0 <ℤ b → pos 0 <ℤ c → a *ℤ x +ℤ b *ℤ y ≡ c *ℤ z → T (sums (sgn x) (sgn y) (sgn z))
sgn-sums a b c x y z p q r e = sums_of (a *ℤ x) (b *ℤ y) (c *ℤ z) e (sg-scale a x p (sg x)) (sg-scale b y q (sg y)) (sgn_is (c *ℤ z) (sg-scale c z r (sg z)))

-- ---- not of opposite strict signs, and not of one strict sign
pub record NotOpposite (x y : ℤ) : Type 0 where
  pub np : x <ℤ pos 0 → pos 0 <ℤ y → ⊥
  pub pn : pos 0 <ℤ x → y <ℤ pos 0 → ⊥

pub record NotSame (x y : ℤ) : Type 0 where
  pub nn : x <ℤ pos 0 → y <ℤ pos 0 → ⊥
  pub pp : pos 0 <ℤ x → pos 0 <ℤ y → ⊥

-- two numbers, neither 0, not of opposite signs: both positive or neither
pub plus_both : (x y : ℤ) → (x ≡ pos 0 → ⊥) → (y ≡ pos 0 → ⊥) → NotOpposite x y → is_plus (sgn x) ≡ is_plus (sgn y)
plus_both x y a b n = go (sg x) (sg y)
  where
    go : {s u : Sign} → Sg x s → Sg y u → is_plus s ≡ is_plus u
    go (is_neg_lem p) (is_neg_lem q) = refl
    go (is_neg_lem p) (is_zer_lem q) = absurd (b q)
    go (is_neg_lem p) (is_plus_lem q) = absurd (n.np p q)
    go (is_zer_lem p) (is_neg_lem q) = refl
    go (is_zer_lem p) (is_zer_lem q) = refl
    go (is_zer_lem p) (is_plus_lem q) = absurd (a p)
    go (is_plus_lem p) (is_neg_lem q) = absurd (n.pn p q)
    go (is_plus_lem p) (is_zer_lem q) = absurd (b q)
    go (is_plus_lem p) (is_plus_lem q) = refl

-- ---- one number for a pair
pub mix : (N y x : ℤ) → neg_ℤ N <ℤ x → x <ℤ N → sgn (N *ℤ y +ℤ x) ≡ lex_s y x
mix N y x h l = go (sg y)
  where
    go : {s : Sign} → Sg y s → sgn (N *ℤ y +ℤ x) ≡ pick s (sgn x)
    go (is_neg_lem p) =
        sgn-neg (zomega (N ∷ y ∷ x ∷ []) {A = pos 0 ≤ℤ (N *ℤ (negsuc 0 -ℤ y)) → x <ℤ N → (N *ℤ y +ℤ x) <ℤ pos 0} (search sq depth 20) (omega arith)
        (0≤-* (zomega (N ∷ x ∷ []) {A = neg_ℤ N <ℤ x → x <ℤ N → pos 0 ≤ℤ N} (search sq depth 20) (omega arith) h l)
        (zomega (y ∷ []) {A = y <ℤ pos 0 → pos 0 ≤ℤ (negsuc 0 -ℤ y)} (search sq depth 20) (omega arith) p)) l)
    go (is_zer_lem p) = ap sgn (≡-by₁ p N {x = N *ℤ y +ℤ x} {y = x} (ring (N ∷ y ∷ x ∷ []) (search reify depth 20) tt))
    go (is_plus_lem p) =
        sgn-plus (zomega (N ∷ y ∷ x ∷ []) {A = pos 0 ≤ℤ (N *ℤ (y -ℤ pos 1)) → neg_ℤ N <ℤ x → pos 0 <ℤ (N *ℤ y +ℤ x)} (search sq depth 20) (omega arith)
        (0≤-* (zomega (N ∷ x ∷ []) {A = neg_ℤ N <ℤ x → x <ℤ N → pos 0 ≤ℤ N} (search sq depth 20) (omega arith) h l)
        (zomega (y ∷ []) {A = pos 0 <ℤ y → pos 0 ≤ℤ (y -ℤ pos 1)} (search sq depth 20) (omega arith) p)) h)

-- ---- a number greater than three others
unfoldable abs : ℤ → ℤ
abs x = pos (nat_abs x)

record Bound (x N : ℤ) : Type 0 where
  lower : neg_ℤ N <ℤ x
  upper : x <ℤ N

abs_0 : (x : ℤ) → pos 0 ≤ℤ abs x
unfolding abs
abs_0 x = 0≤pos (nat_abs x)

abs-≤ : (x : ℤ) → x ≤ℤ abs x
unfolding abs
abs-≤ (pos n) = ≤-of (pos n) (pos n) (omega arith)
abs-≤ (negsuc n) = ≤-of (negsuc n) (pos (suc n)) (omega arith)

abs-≥ : (x : ℤ) → neg_ℤ (abs x) ≤ℤ x
unfolding abs
abs-≥ (pos zero) = ≤-of (pos 0) (pos 0) (omega arith)
abs-≥ (pos (suc n)) = ≤-of (negsuc n) (pos (suc n)) (omega arith)
abs-≥ (negsuc n) = ≤-of (negsuc n) (negsuc n) (omega arith)

abbrev big : ℤ → ℤ → ℤ → ℤ
big x y z = pos 1 +ℤ abs x +ℤ abs y +ℤ abs z

within : (x a b N : ℤ) → pos 0 ≤ℤ a → pos 0 ≤ℤ b → N ≡ pos 1 +ℤ abs x +ℤ a +ℤ b → Bound x N
within x a b N p q e = record {
  lower = zomega (x ∷ abs x ∷ a ∷ b ∷ N ∷ []) {A = neg_ℤ (abs x) ≤ℤ x → pos 0 ≤ℤ a → pos 0 ≤ℤ b → N ≡ pos 1 +ℤ abs x +ℤ a +ℤ b → neg_ℤ N <ℤ x} (search sq depth 20) (omega arith) (abs-≥ x) p q e;
  upper = zomega (x ∷ abs x ∷ a ∷ b ∷ N ∷ []) {A = x ≤ℤ abs x → pos 0 ≤ℤ a → pos 0 ≤ℤ b → N ≡ pos 1 +ℤ abs x +ℤ a +ℤ b → x <ℤ N} (search sq depth 20) (omega arith) (abs-≤ x) p q e;
}

big₁ : (x y z : ℤ) → Bound x (big x y z)
big₁ x y z = within x (abs y) (abs z) (big x y z) (abs_0 y) (abs_0 z) refl

big₂ : (x y z : ℤ) → Bound y (big x y z)
big₂ x y z = within y (abs x) (abs z) (big x y z) (abs_0 x) (abs_0 z) (ring (abs x ∷ abs y ∷ abs z ∷ []) (search reify depth 20) tt)

big₃ : (x y z : ℤ) → Bound z (big x y z)
big₃ x y z = within z (abs x) (abs y) (big x y z) (abs_0 x) (abs_0 y) (ring (abs x ∷ abs y ∷ abs z ∷ []) (search reify depth 20) tt)

-- ---- the laws
abbrev not_plus : Sign → Bool
not_plus neg = true
not_plus zer = true
not_plus plus = false

pub plus→ : {z : ℤ} → sgn z ≡ plus → pos 0 <ℤ z
plus→ {z} e = go (sg z) e
  where
    go : {s : Sign} → Sg z s → s ≡ plus → pos 0 <ℤ z
    go (is_neg_lem h) e = absurd (subst (λ (t : Sign). T (not_plus t)) e tt)
    go (is_zer_lem h) e = absurd (subst (λ (t : Sign). T (not_plus t)) e tt)
    go (is_plus_lem h) e = h

pub lex_scalars : (a b c x₀ x₁ y₀ y₁ z₀ z₁ : ℤ) → pos 0 <ℤ a → pos 0 <ℤ b → pos 0 <ℤ c →
    a *ℤ x₀ +ℤ b *ℤ y₀ ≡ c *ℤ z₀ → a *ℤ x₁ +ℤ b *ℤ y₁ ≡ c *ℤ z₁ → T (sums (lex_s x₀ x₁) (lex_s y₀ y₁) (lex_s z₀ z₁))
lex_scalars a b c x₀ x₁ y₀ y₁ z₀ z₁ p q r e₀ e₁ =
    subst T (λ i. sums (mix N x₀ x₁ (big₁ x₁ y₁ z₁).lower (big₁ x₁ y₁ z₁).upper i) (mix N y₀ y₁ (big₂ x₁ y₁ z₁).lower (big₂ x₁ y₁ z₁).upper i) (mix N z₀ z₁ (big₃ x₁ y₁ z₁).lower (big₃ x₁ y₁ z₁).upper i))
    (sgn-sums a b c (N *ℤ x₀ +ℤ x₁) (N *ℤ y₀ +ℤ y₁) (N *ℤ z₀ +ℤ z₁) p q r
    (≡-by₂ e₀ N e₁ (pos 1) (law a b c x₀ x₁ y₀ y₁ z₀ z₁ N)))
  where
    N : ℤ
    N = big x₁ y₁ z₁

    law : (a b c x₀ x₁ y₀ y₁ z₀ z₁ N : ℤ) →
        (a *ℤ (N *ℤ x₀ +ℤ x₁) +ℤ b *ℤ (N *ℤ y₀ +ℤ y₁)) -ℤ c *ℤ (N *ℤ z₀ +ℤ z₁)
        ≡ N *ℤ (a *ℤ x₀ +ℤ b *ℤ y₀ -ℤ c *ℤ z₀) +ℤ pos 1 *ℤ (a *ℤ x₁ +ℤ b *ℤ y₁ -ℤ c *ℤ z₁)
    law a b c x₀ x₁ y₀ y₁ z₀ z₁ N = ring (a ∷ b ∷ c ∷ x₀ ∷ x₁ ∷ y₀ ∷ y₁ ∷ z₀ ∷ z₁ ∷ N ∷ []) (search reify depth 20) tt

pub lex_pairs : (a₀ a₁ b₀ b₁ c₀ c₁ x y z : ℤ) → lex_s a₀ a₁ ≡ plus → lex_s b₀ b₁ ≡ plus → lex_s c₀ c₁ ≡ plus →
    a₀ *ℤ x +ℤ b₀ *ℤ y ≡ c₀ *ℤ z → a₁ *ℤ x +ℤ b₁ *ℤ y ≡ c₁ *ℤ z → T (sums (sgn x) (sgn y) (sgn z))
lex_pairs a₀ a₁ b₀ b₁ c₀ c₁ x y z p q r e₀ e₁ =
    sgn-sums (N *ℤ a₀ +ℤ a₁) (N *ℤ b₀ +ℤ b₁) (N *ℤ c₀ +ℤ c₁) x y z
    (plus→ (mix N a₀ a₁ (big₁ a₁ b₁ c₁).lower (big₁ a₁ b₁ c₁).upper ∙ p)) (plus→ (mix N b₀ b₁ (big₂ a₁ b₁ c₁).lower (big₂ a₁ b₁ c₁).upper ∙ q)) (plus→ (mix N c₀ c₁ (big₃ a₁ b₁ c₁).lower (big₃ a₁ b₁ c₁).upper ∙ r))
    (≡-by₂ e₀ N e₁ (pos 1) (law a₀ a₁ b₀ b₁ c₀ c₁ x y z N))
  where
    N : ℤ
    N = big a₁ b₁ c₁

    law : (a₀ a₁ b₀ b₁ c₀ c₁ x y z N : ℤ) →
        ((N *ℤ a₀ +ℤ a₁) *ℤ x +ℤ (N *ℤ b₀ +ℤ b₁) *ℤ y) -ℤ (N *ℤ c₀ +ℤ c₁) *ℤ z
        ≡ N *ℤ (a₀ *ℤ x +ℤ b₀ *ℤ y -ℤ c₀ *ℤ z) +ℤ pos 1 *ℤ (a₁ *ℤ x +ℤ b₁ *ℤ y -ℤ c₁ *ℤ z)
    law a₀ a₁ b₀ b₁ c₀ c₁ x y z N = ring (a₀ ∷ a₁ ∷ b₀ ∷ b₁ ∷ c₀ ∷ c₁ ∷ x ∷ y ∷ z ∷ N ∷ []) (search reify depth 20) tt

pub lex_scale : (a y x : ℤ) → pos 0 <ℤ a → lex_s (a *ℤ y) (a *ℤ x) ≡ lex_s y x
lex_scale a y x p i = pick (sgn_is (a *ℤ y) (sg-scale a y p (sg y)) i) (sgn_is (a *ℤ x) (sg-scale a x p (sg x)) i)

pub lex_neg : (y x : ℤ) → lex_s (neg_ℤ y) (neg_ℤ x) ≡ neg_s (lex_s y x)
lex_neg y x = (λ i. pick (sgn-negℤ y i) (sgn-negℤ x i)) ∙ go (sgn y) (sgn x)
  where
    go : (s t : Sign) → pick (neg_s s) (neg_s t) ≡ neg_s (pick s t)
    go neg t = refl
    go zer t = refl
    go plus t = refl
