-- Products and the order of ℤ: products with 0 fall away, monotone, and a positive factor cancels in ≤, < and ≡. And how an equation or an inequality is proved from others and a
-- polynomial identity, a certificate:
--     ≡-by₁ e c (ring ..)       x ≡ y from e : p ≡ q, where x - y = c·(p - q)
--     0≤-by / 0<-by             0 ≤ z from z = s and 0 ≤ s
-- Assumes nothing.
use Rattle.std.specs.Prelude.{◌≡◌, [], ◌∷◌, ℤ, pos, neg_ℤ, ◌+ℤ◌, ◌-ℤ◌, ◌*ℤ◌, ◌≤ℤ◌, ◌<ℤ◌}
use Rattle.std.proofs.Common.{sym, ◌∙◌, ap, subst, ⊎_elim, arith}
use Rattle.std.proofs.Math.IntN.{+ℤ_invr, *ℤ-zero}
use Rattle.exact.specs.Solve.{ring, reify, sub-zero→}
use Rattle.exact.specs.Order.{zomega, sq, Tri, lt, eq, gt, tri, <→≤, <→≢, ≤→0≤, <→0<, 0<-neg, 0≤-*, 0<-*, *-zero}

-- ---- certificates
pub ≡-by₁ : {p q : ℤ} (e : p ≡ q) (c : ℤ) {x y : ℤ} → x -ℤ y ≡ c *ℤ (p -ℤ q) → x ≡ y
≡-by₁ {p} {q} e c {x} {y} h = sub-zero→ x y (h ∙ ap (λ (t : ℤ). c *ℤ (t -ℤ q)) e ∙ ap (λ (t : ℤ). c *ℤ t) (+ℤ_invr q) ∙ *ℤ-zero c)

pub ≡-by₂ : {p q p' q' : ℤ} (e : p ≡ q) (c : ℤ) (e' : p' ≡ q') (c' : ℤ) {x y : ℤ} → x -ℤ y ≡ c *ℤ (p -ℤ q) +ℤ c' *ℤ (p' -ℤ q') → x ≡ y
≡-by₂ {p} {q} {p'} {q'} e c e' c' {x} {y} h =
    sub-zero→ x y (h ∙ (λ i. c *ℤ (e i -ℤ q) +ℤ c' *ℤ (e' i -ℤ q')) ∙ ring (c ∷ q ∷ c' ∷ q' ∷ []) (search reify depth 20) tt)

pub 0≤-by : {z s : ℤ} → z ≡ s → pos 0 ≤ℤ s → pos 0 ≤ℤ z
0≤-by e h = subst (λ (t : ℤ). pos 0 ≤ℤ t) (sym e) h

pub 0<-by : {z s : ℤ} → z ≡ s → pos 0 <ℤ s → pos 0 <ℤ z
0<-by e h = subst (λ (t : ℤ). pos 0 <ℤ t) (sym e) h

pub 0≤-+ : {a b : ℤ} → pos 0 ≤ℤ a → pos 0 ≤ℤ b → pos 0 ≤ℤ (a +ℤ b)
0≤-+ {a} {b} = zomega (a ∷ b ∷ []) (search sq depth 20) (omega arith)

pub 0<-+ : {a b : ℤ} → pos 0 <ℤ a → pos 0 ≤ℤ b → pos 0 <ℤ (a +ℤ b)
0<-+ {a} {b} = zomega (a ∷ b ∷ []) (search sq depth 20) (omega arith)

-- a product with 0 falls away
pub drop-zero : (a b l m : ℤ) → m ≡ pos 0 → a *ℤ l -ℤ b *ℤ m ≡ a *ℤ l
drop-zero a b l m e = ap (λ (z : ℤ). a *ℤ l -ℤ b *ℤ z) e ∙ ring (a ∷ b ∷ l ∷ []) (search reify depth 20) tt

pub drop_first : (b m a l : ℤ) → b ≡ pos 0 → a *ℤ l ≡ a *ℤ l -ℤ b *ℤ m
drop_first b m a l e = ≡-by₁ e m (ring (a ∷ b ∷ l ∷ m ∷ []) (search reify depth 20) tt)

-- ---- monotone
pub *-mono-≤ : {a b c : ℤ} → pos 0 ≤ℤ c → a ≤ℤ b → (c *ℤ a) ≤ℤ (c *ℤ b)
*-mono-≤ {a} {b} {c} h l = zomega (a ∷ b ∷ c ∷ []) {A = pos 0 ≤ℤ (c *ℤ (b -ℤ a)) → (c *ℤ a) ≤ℤ (c *ℤ b)} (search sq depth 20) (omega arith) (0≤-* h (≤→0≤ l))

pub *-mono-< : {a b c : ℤ} → pos 0 <ℤ c → a <ℤ b → (c *ℤ a) <ℤ (c *ℤ b)
*-mono-< {a} {b} {c} h l = zomega (a ∷ b ∷ c ∷ []) {A = pos 0 <ℤ (c *ℤ (b -ℤ a)) → (c *ℤ a) <ℤ (c *ℤ b)} (search sq depth 20) (omega arith) (0<-* h (<→0< l))

-- ---- a positive factor cancels
not_both : (c z : ℤ) → pos 0 <ℤ (c *ℤ neg_ℤ z) → pos 0 ≤ℤ (c *ℤ z) → ⊥
not_both c z = zomega (c ∷ z ∷ []) (search sq depth 20) (omega arith)

pub 0<-cancel : (c z : ℤ) → pos 0 <ℤ c → pos 0 <ℤ (c *ℤ z) → pos 0 <ℤ z
0<-cancel c z h l = go (tri (pos 0) z)
  where
    go : Tri (pos 0) z → pos 0 <ℤ z
    go (lt p) = p
    go (eq e) = absurd (<→≢ l (sym (ap (λ (t : ℤ). c *ℤ t) (sym e) ∙ *ℤ-zero c)))
    go (gt p) = absurd (not_both c z (0<-* h (0<-neg z p)) (<→≤ l))

pub 0≤-cancel : (c z : ℤ) → pos 0 <ℤ c → pos 0 ≤ℤ (c *ℤ z) → pos 0 ≤ℤ z
0≤-cancel c z h l = go (tri (pos 0) z)
  where
    go : Tri (pos 0) z → pos 0 ≤ℤ z
    go (lt p) = <→≤ p
    go (eq e) = zomega (z ∷ []) {A = pos 0 ≡ z → pos 0 ≤ℤ z} (search sq depth 20) (omega arith) e
    go (gt p) = absurd (not_both c z (0<-* h (0<-neg z p)) l)

pub *-cancel-≤ : (c a b : ℤ) → pos 0 <ℤ c → (c *ℤ a) ≤ℤ (c *ℤ b) → a ≤ℤ b
*-cancel-≤ c a b h l =
    zomega (a ∷ b ∷ []) {A = pos 0 ≤ℤ (b -ℤ a) → a ≤ℤ b} (search sq depth 20) (omega arith)
    (0≤-cancel c (b -ℤ a) h (zomega (a ∷ b ∷ c ∷ []) {A = (c *ℤ a) ≤ℤ (c *ℤ b) → pos 0 ≤ℤ (c *ℤ (b -ℤ a))} (search sq depth 20) (omega arith) l))

pub *-cancel-< : (c a b : ℤ) → pos 0 <ℤ c → (c *ℤ a) <ℤ (c *ℤ b) → a <ℤ b
*-cancel-< c a b h l =
    zomega (a ∷ b ∷ []) {A = pos 0 <ℤ (b -ℤ a) → a <ℤ b} (search sq depth 20) (omega arith)
    (0<-cancel c (b -ℤ a) h (zomega (a ∷ b ∷ c ∷ []) {A = (c *ℤ a) <ℤ (c *ℤ b) → pos 0 <ℤ (c *ℤ (b -ℤ a))} (search sq depth 20) (omega arith) l))

-- a factor greater than 0 of a product that is 0
pub zero-cancel : (c z : ℤ) → pos 0 <ℤ c → c *ℤ z ≡ pos 0 → z ≡ pos 0
zero-cancel c z h e = ⊎_elim (λ f. absurd (<→≢ h (sym f))) (λ f. f) (*-zero c z e)

-- a factor that is not 0 cancels in an equation
pub *-cancel-≡ : (c a b : ℤ) → (c ≡ pos 0 → ⊥) → c *ℤ a ≡ c *ℤ b → a ≡ b
*-cancel-≡ c a b h e =
    ⊎_elim (λ z. absurd (h z)) (λ z. sub-zero→ a b z)
    (*-zero c (a -ℤ b) (ring (a ∷ b ∷ c ∷ []) (search reify depth 20) tt ∙ ap (λ (t : ℤ). t -ℤ c *ℤ b) e ∙ +ℤ_invr (c *ℤ b)))
