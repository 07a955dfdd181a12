-- Worked examples of the kit, to start from: identities by `ring`, equations by certificate, linear arithmetic by `zomega`, products as premises, the order
-- of fractions by cross-multiplication; then machine terms, a line a need. Nothing here is used elsewhere. Assumes nothing.
use Rattle.std.specs.Prelude.{◌≡◌, true, [], ◌∷◌, ℕ, ◌≤◌, ◌<◌, T, ℤ, pos, negsuc, neg_ℤ, nat_abs, ◌+ℤ◌, ◌-ℤ◌, ◌*ℤ◌, ◌≤ℤ◌, ◌<ℤ◌}
use Rattle.std.specs.Int.{w16, w64}
use Rattle.std.proofs.Common.{Fits, SFits, to_z, of_z, arith}
use Rattle.std.specs.Int.Signed.{lt_z, lt_z_yes, non_neg, quot_z, rem_z}
use Rattle.exact.specs.Solve.{ring, reify, solve, v, k, ◌⊞◌, ◌⊠◌}
use Rattle.exact.specs.Order.{zomega, sq, <→0<, 0<→<, 0<-*, 0≤-*, ≤→0≤}
use Rattle.exact.specs.Mach.{tr, trs, trn, tru, trb, fits, plain, atmost, taken, divisor, cast_u}
use Rattle.exact.specs.Mul.{0<-cancel, ≡-by₂}

-- ---- identities
square : (a b : ℤ) → (a +ℤ b) *ℤ (a +ℤ b) ≡ a *ℤ a +ℤ pos 2 *ℤ (a *ℤ b) +ℤ b *ℤ b
square a b = ring (a ∷ b ∷ []) (search reify depth 20) tt

-- the same with the expressions written out, where `search` is not wanted
square' : (a b : ℤ) → (a +ℤ b) *ℤ (a +ℤ b) ≡ a *ℤ a +ℤ pos 2 *ℤ (a *ℤ b) +ℤ b *ℤ b
square' a b = solve (a ∷ b ∷ []) ((v 0 ⊞ v 1) ⊠ (v 0 ⊞ v 1)) (v 0 ⊠ v 0 ⊞ k (pos 2) ⊠ (v 0 ⊠ v 1) ⊞ v 1 ⊠ v 1) tt

binomial : (a b : ℤ) → (a +ℤ b) *ℤ (a +ℤ b) *ℤ ((a +ℤ b) *ℤ (a +ℤ b)) ≡ a *ℤ a *ℤ a *ℤ a +ℤ pos 4 *ℤ (a *ℤ a *ℤ a *ℤ b) +ℤ pos 6 *ℤ (a *ℤ a *ℤ b *ℤ b) +ℤ pos 4 *ℤ (a *ℤ b *ℤ b *ℤ b) +ℤ b *ℤ b *ℤ b *ℤ b
binomial a b = ring (a ∷ b ∷ []) (search reify depth 20) tt

abbrev det : ℤ → ℤ → ℤ → ℤ → ℤ
det a b c d = a *ℤ d -ℤ b *ℤ c

-- Plücker's relation of four columns
pluecker : (a b c d e f g h : ℤ) → det a e b f *ℤ det c g d h -ℤ det a e c g *ℤ det b f d h +ℤ det a e d h *ℤ det b f c g ≡ pos 0
pluecker a b c d e f g h = ring (a ∷ b ∷ c ∷ d ∷ e ∷ f ∷ g ∷ h ∷ []) (search reify depth 20) tt

abbrev det3 : ℤ → ℤ → ℤ → ℤ → ℤ → ℤ → ℤ → ℤ → ℤ → ℤ
det3 a b c d e f g h i = a *ℤ (e *ℤ i -ℤ f *ℤ h) -ℤ b *ℤ (d *ℤ i -ℤ f *ℤ g) +ℤ c *ℤ (d *ℤ h -ℤ e *ℤ g)

-- det (A-as-B) = det A · det B: 18 variables, degree 6
det-product : (a b c d e f g h i a' b' c' d' e' f' g' h' i' : ℤ) →
    det3 (a *ℤ a' +ℤ b *ℤ d' +ℤ c *ℤ g') (a *ℤ b' +ℤ b *ℤ e' +ℤ c *ℤ h') (a *ℤ c' +ℤ b *ℤ f' +ℤ c *ℤ i')
    (d *ℤ a' +ℤ e *ℤ d' +ℤ f *ℤ g') (d *ℤ b' +ℤ e *ℤ e' +ℤ f *ℤ h') (d *ℤ c' +ℤ e *ℤ f' +ℤ f *ℤ i')
    (g *ℤ a' +ℤ h *ℤ d' +ℤ i *ℤ g') (g *ℤ b' +ℤ h *ℤ e' +ℤ i *ℤ h') (g *ℤ c' +ℤ h *ℤ f' +ℤ i *ℤ i')
    ≡ det3 a b c d e f g h i *ℤ det3 a' b' c' d' e' f' g' h' i'
det-product a b c d e f g h i a' b' c' d' e' f' g' h' i' = ring (a ∷ b ∷ c ∷ d ∷ e ∷ f ∷ g ∷ h ∷ i ∷ a' ∷ b' ∷ c' ∷ d' ∷ e' ∷ f' ∷ g' ∷ h' ∷ i' ∷ []) (search reify depth 40 fits 20000) tt

-- ---- from equations: Cramer's rule is unique. x - y is a combination of the hypotheses, with coefficients that one writes
cramer : (a b c d e f x y : ℤ) → a *ℤ x +ℤ b *ℤ y ≡ e → c *ℤ x +ℤ d *ℤ y ≡ f → det a b c d *ℤ x ≡ e *ℤ d -ℤ b *ℤ f
cramer a b c d e f x y p q = ≡-by₂ p d q (neg_ℤ b) (ring (a ∷ b ∷ c ∷ d ∷ e ∷ f ∷ x ∷ y ∷ []) (search reify depth 20) tt)

-- ---- linear arithmetic: the whole sequent is the goal, and no hypothesis is named
linear : (a b c d : ℤ) → a ≤ℤ (b -ℤ pos 3) → (b ≤ℤ (c +ℤ d)) × (d ≡ negsuc 4) → (pos 2 *ℤ a +ℤ pos 1) <ℤ (pos 2 *ℤ c)
linear a b c d = zomega (a ∷ b ∷ c ∷ d ∷ []) (search sq depth 20) (omega arith)

-- ---- products: hand `zomega` the products that the proof needs as premises. It multiplies out, and is linear in the monomials
rearrange : (a b c d : ℤ) → a ≤ℤ b → c ≤ℤ d → (a *ℤ d +ℤ b *ℤ c) ≤ℤ (a *ℤ c +ℤ b *ℤ d)
rearrange a b c d h l =
    zomega (a ∷ b ∷ c ∷ d ∷ []) {A = pos 0 ≤ℤ ((b -ℤ a) *ℤ (d -ℤ c)) → (a *ℤ d +ℤ b *ℤ c) ≤ℤ (a *ℤ c +ℤ b *ℤ d)} (search sq depth 20) (omega arith)
    (0≤-* (≤→0≤ h) (≤→0≤ l))

-- fractions x1/d1 < x2/d2 < x3/d3, cross-multiplied, with d1, d2, d3 > 0: x1/d1 < x3/d3.
-- d2·(x3·d1 - x1·d3) = (x2·d1 - x1·d2)·d3 + (x3·d2 - x2·d3)·d1, which `zomega` finds
frac_sum : (x1 d1 x2 d2 x3 d3 : ℤ) → pos 0 <ℤ ((x2 *ℤ d1 -ℤ x1 *ℤ d2) *ℤ d3) → pos 0 <ℤ ((x3 *ℤ d2 -ℤ x2 *ℤ d3) *ℤ d1) → pos 0 <ℤ (d2 *ℤ (x3 *ℤ d1 -ℤ x1 *ℤ d3))
frac_sum x1 d1 x2 d2 x3 d3 = zomega (x1 ∷ d1 ∷ x2 ∷ d2 ∷ x3 ∷ d3 ∷ []) (search sq depth 20) (omega arith)

frac_trans : (x1 d1 x2 d2 x3 d3 : ℤ) → pos 0 <ℤ d1 → pos 0 <ℤ d2 → pos 0 <ℤ d3 → (x1 *ℤ d2) <ℤ (x2 *ℤ d1) → (x2 *ℤ d3) <ℤ (x3 *ℤ d2) → (x1 *ℤ d3) <ℤ (x3 *ℤ d1)
frac_trans x1 d1 x2 d2 x3 d3 p1 p2 p3 h l =
    0<→< (x1 *ℤ d3) (x3 *ℤ d1) (0<-cancel d2 (x3 *ℤ d1 -ℤ x1 *ℤ d3) p2 (frac_sum x1 d1 x2 d2 x3 d3 (0<-* (<→0< h) p3) (0<-* (<→0< l) p1)))

-- ---- machine terms. `r x` is what the machine reads back of x
abbrev r : ℤ → ℤ
r x = to_z w64 (of_z w64 x)

module _ (a b : ℤ) (h : nat_abs a ≤ 4000) (l : nat_abs b ≤ 4000) where
  -- a sum of products fits, and is what it says
  sum_fits : SFits w64 (r (r a *ℤ r a) +ℤ r (r b *ℤ r b))
  sum_fits = fits (search tr depth 20) tt

  sum_is : r (r (r a *ℤ r a) +ℤ r (r b *ℤ r b)) ≡ a *ℤ a +ℤ b *ℤ b
  sum_is = plain (search tr depth 20) tt

  -- a bound for a callee
  sum-small : nat_abs (r (r a +ℤ r b)) ≤ 8000
  sum-small = atmost (search tru depth 20) tt

  -- a test that was taken
  taken_is : lt_z (r a) (r (r b +ℤ pos 1)) ≡ true → a <ℤ (b +ℤ pos 1)
  taken_is e = lt_z_yes (taken e (search trb depth 20) tt)

  -- what a / b and a % b ask, and what they are
  quotient : (b ≡ pos 0 → ⊥) → (0 < of_z w64 b) × SFits w64 (quot_z (r a) (r b))
  quotient n = (divisor w64 b (search tr depth 20) tt n, fits (search tr depth 20) tt)

  remainder_is : r (rem_z (r a) (r b)) ≡ rem_z a b
  remainder_is = plain (search tr depth 20) tt

  -- a as u16
  as_u16 : pos 0 ≤ℤ a → T (non_neg (r a)) × Fits w16 (nat_abs (r a))
  as_u16 p = cast_u w64 w16 a (search tr depth 20) tt p

-- an i16 and a u16 as i64, of which no more than the range is known
wide-sum : (x : ℤ) → SFits w16 x → r (r (to_z w16 (of_z w16 x)) +ℤ pos 1) ≡ x +ℤ pos 1
wide-sum x f = plain (search trs depth 20) tt

wide-difference : (n : ℕ) → n < 65536 → r (to_z w64 n -ℤ pos 1) ≡ pos n -ℤ pos 1
wide-difference n h = plain (search trn depth 20) tt
