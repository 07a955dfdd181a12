-- The upper half of the plane, with the east: the vectors with y > 0, or y = 0 and x > 0. It is a cone: closed under sums and positive multiples.
-- The order of points, of angles and of what lies nearer are all stated by it, and each is transitive by one identity: a positive multiple of the
-- third vector is a sum of positive multiples of the other two. In order: the cone (`Up`); the three ways of a vector, with its sign in point order
-- (`which`, `lex_is`: the bridge from `lex_s`, said once); factors; the same of `Vec` (`UpV`, `rises_up`, `up_rises`). Assumes nothing.
use Rattle.std.specs.Prelude.{◌≡◌, refl, true, false, not, [], ◌∷◌, ℤ, pos, neg_ℤ, ◌+ℤ◌, ◌*ℤ◌, ◌<ℤ◌}
use Rattle.std.proofs.Common.{sym, ◌∙◌, ap, subst, subst₂, ⊎_elim, arith}
use Rattle.std.proofs.Math.IntN.{zero-*ℤ, *ℤ-zero}
use Rattle.exact.specs.Solve.{ring, reify}
use Rattle.exact.specs.Order.{zomega, sq, Tri, lt, eq, gt, tri, 0<-*, *-zero, 0<-neg, zero-neg, neg-zero}
use Rattle.exact.specs.Sign.{Sign, neg, zer, plus, pick, lex_s, is_neg, is_zer, is_plus, Sg, is_neg_lem, is_zer_lem, is_plus_lem, sg}
use Rattle.exact.specs.Tests.{never, not-true}
use Rattle.paper.specs.Plane.{Vec, rises, opposite}

pub data Up (x y : ℤ) : Type 0 where
  above : pos 0 <ℤ y → Up x y
  level : y ≡ pos 0 → pos 0 <ℤ x → Up x y

pub up_by : {x y x' y' : ℤ} → x ≡ x' → y ≡ y' → Up x y → Up x' y'
up_by e f h = subst₂ Up e f h

-- ── a cone ──

pub up-+ : {x y x' y' : ℤ} → Up x y → Up x' y' → Up (x +ℤ x') (y +ℤ y')
up-+ {x} {y} {x'} {y'} (above h) (above l) = above (zomega (y ∷ y' ∷ []) {A = pos 0 <ℤ y → pos 0 <ℤ y' → pos 0 <ℤ (y +ℤ y')} (search sq depth 20) (omega arith) h l)
up-+ {x} {y} {x'} {y'} (above h) (level e l) = above (zomega (y ∷ y' ∷ []) {A = pos 0 <ℤ y → y' ≡ pos 0 → pos 0 <ℤ (y +ℤ y')} (search sq depth 20) (omega arith) h e)
up-+ {x} {y} {x'} {y'} (level d h) (above l) = above (zomega (y ∷ y' ∷ []) {A = y ≡ pos 0 → pos 0 <ℤ y' → pos 0 <ℤ (y +ℤ y')} (search sq depth 20) (omega arith) d l)
up-+ {x} {y} {x'} {y'} (level d h) (level e l) =
    level (zomega (y ∷ y' ∷ []) {A = y ≡ pos 0 → y' ≡ pos 0 → y +ℤ y' ≡ pos 0} (search sq depth 20) (omega arith) d e)
    (zomega (x ∷ x' ∷ []) {A = pos 0 <ℤ x → pos 0 <ℤ x' → pos 0 <ℤ (x +ℤ x')} (search sq depth 20) (omega arith) h l)

pub up-* : {k x y : ℤ} → pos 0 <ℤ k → Up x y → Up (k *ℤ x) (k *ℤ y)
up-* h (above l) = above (0<-* h l)
up-* {k} h (level e l) = level (ap (λ (z : ℤ). k *ℤ z) e ∙ *ℤ-zero k) (0<-* h l)

no_zero : pos 0 <ℤ pos 0 → ⊥
no_zero = zomega [] (search sq depth 20) (omega arith)

pub up_0 : {x y : ℤ} → x ≡ pos 0 → y ≡ pos 0 → Up x y → ⊥
up_0 e f (above h) = no_zero (subst (λ (z : ℤ). pos 0 <ℤ z) f h)
up_0 e f (level d h) = no_zero (subst (λ (z : ℤ). pos 0 <ℤ z) e h)

pub up_not_down : {x y : ℤ} → Up x y → Up (neg_ℤ x) (neg_ℤ y) → ⊥
up_not_down {x} {y} h l = up_0 (ring (x ∷ []) (search reify depth 20) tt) (ring (y ∷ []) (search reify depth 20) tt) (up-+ h l)

-- ── the three ways, and the sign of each in point order ──

pub data Way (x y : ℤ) : Sign → Type 0 where
  up : Up x y → Way x y plus
  nil : x ≡ pos 0 → y ≡ pos 0 → Way x y zer
  down : Up (neg_ℤ x) (neg_ℤ y) → Way x y neg

pub which : (x y : ℤ) → Way x y (lex_s y x)
which x y = go (sg y) (sg x)
  where
    go : {s t : Sign} → Sg y s → Sg x t → Way x y (pick s t)
    go (is_plus_lem h) t = up (above h)
    go (is_neg_lem h) t = down (above (0<-neg y h))
    go (is_zer_lem e) (is_plus_lem h) = up (level e h)
    go (is_zer_lem e) (is_zer_lem f) = nil f e
    go (is_zer_lem e) (is_neg_lem h) = down (level (zero-neg y e) (0<-neg x h))

-- a vector goes one way only
pub lex_is : (x y : ℤ) {s : Sign} → Way x y s → lex_s y x ≡ s
lex_is x y w = go (which x y) w
  where
    go : {s t : Sign} → Way x y s → Way x y t → s ≡ t
    go (up h) (up l) = refl
    go (up h) (nil e f) = absurd (up_0 e f h)
    go (up h) (down l) = absurd (up_not_down h l)
    go (nil e f) (up l) = absurd (up_0 e f l)
    go (nil e f) (nil p q) = refl
    go (nil e f) (down l) = absurd (up_0 (zero-neg x e) (zero-neg y f) l)
    go (down h) (up l) = absurd (up_not_down l h)
    go (down h) (nil p q) = absurd (up_0 (zero-neg x p) (zero-neg y q) h)
    go (down h) (down l) = refl

pub lex_up : (x y : ℤ) → is_plus (lex_s y x) ≡ true → Up x y
lex_up x y = go (which x y)
  where
    go : {s : Sign} → Way x y s → is_plus s ≡ true → Up x y
    go (up h) e = h
    go (nil p q) e = never e
    go (down h) e = never e

pub lex_down : (x y : ℤ) → is_neg (lex_s y x) ≡ true → Up (neg_ℤ x) (neg_ℤ y)
lex_down x y = go (which x y)
  where
    go : {s : Sign} → Way x y s → is_neg s ≡ true → Up (neg_ℤ x) (neg_ℤ y)
    go (up h) e = never e
    go (nil p q) e = never e
    go (down h) e = h

pub lex_nil : (x y : ℤ) → is_zer (lex_s y x) ≡ true → (x ≡ pos 0) × (y ≡ pos 0)
lex_nil x y = go (which x y)
  where
    go : {s : Sign} → Way x y s → is_zer s ≡ true → (x ≡ pos 0) × (y ≡ pos 0)
    go (up h) e = never e
    go (nil p q) e = (p, q)
    go (down h) e = never e

-- ── factors ──

-- a multiple of one of the cone is in it only by a positive factor
pub up_factor : (k : ℤ) {x y : ℤ} → Up x y → Up (k *ℤ x) (k *ℤ y) → pos 0 <ℤ k
up_factor k {x} {y} h l = go (tri (pos 0) k)
  where
    go : Tri (pos 0) k → pos 0 <ℤ k
    go (lt p) = p
    go (eq e) = absurd (up_0 (ap (λ (z : ℤ). z *ℤ x) (sym e) ∙ zero-*ℤ x) (ap (λ (z : ℤ). z *ℤ y) (sym e) ∙ zero-*ℤ y) l)
    go (gt p) = absurd (up_not_down l (up_by (ring (k ∷ x ∷ []) (search reify depth 20) tt) (ring (k ∷ y ∷ []) (search reify depth 20) tt) (up-* (0<-neg k p) h)))

-- a positive factor cancels
pub up_cancel : (k x y : ℤ) → pos 0 <ℤ k → Up (k *ℤ x) (k *ℤ y) → Up x y
up_cancel k x y h l = go (which x y)
  where
    go : {s : Sign} → Way x y s → Up x y
    go (up p) = p
    go (nil e f) = absurd (up_0 (ap (λ (z : ℤ). k *ℤ z) e ∙ *ℤ-zero k) (ap (λ (z : ℤ). k *ℤ z) f ∙ *ℤ-zero k) l)
    go (down p) = absurd (up_not_down l (up_by (ring (k ∷ x ∷ []) (search reify depth 20) tt) (ring (k ∷ y ∷ []) (search reify depth 20) tt) (up-* h p)))

-- a number that takes a vector that is not nowhere to nowhere is 0
pub zero_factor : (c : ℤ) {x y : ℤ} → (x ≡ pos 0 → y ≡ pos 0 → ⊥) → c *ℤ x ≡ pos 0 → c *ℤ y ≡ pos 0 → c ≡ pos 0
zero_factor c {x} {y} n e f = ⊎_elim (λ z. z) (λ p. ⊎_elim (λ z. z) (λ q. absurd (n p q)) (*-zero c y f)) (*-zero c x e)

-- ── of a direction ──

abbrev pub UpV : Vec → Type 0
UpV u = Up u.x u.y

-- not nowhere
abbrev pub NonZero : Vec → Type 0
NonZero u = u.x ≡ pos 0 → u.y ≡ pos 0 → ⊥

module _ (u : Vec) where
  pub rises_up : rises u ≡ true → UpV u
  rises_up = lex_up u.x u.y

  pub up_rises : UpV u → rises u ≡ true
  up_rises h = ap is_plus (lex_is u.x u.y (up h))

  pub rises_no : NonZero u → rises u ≡ false → UpV (opposite u)
  rises_no n = go (which u.x u.y)
    where
      go : {s : Sign} → Way u.x u.y s → is_plus s ≡ false → UpV (opposite u)
      go (up h) e = never (sym e)
      go (nil p q) e = absurd (n p q)
      go (down h) e = h

  pub no_rises : UpV (opposite u) → rises u ≡ false
  no_rises h = ap is_plus (lex_is u.x u.y (down h))

  pub up_nonzero : UpV u → NonZero u
  up_nonzero h p q = up_0 p q h

  pub opposite-nonzero : NonZero u → NonZero (opposite u)
  opposite-nonzero n p q = n (neg-zero u.x p) (neg-zero u.y q)

  -- the opposite of a direction goes the other way
  pub rises-opposite : NonZero u → rises (opposite u) ≡ not (rises u)
  rises-opposite n = go (which u.x u.y)
    where
      go : {s : Sign} → Way u.x u.y s → rises (opposite u) ≡ not (is_plus s)
      go (up h) = not-true (rises (opposite u)) (λ e. up_not_down h (lex_up (neg_ℤ u.x) (neg_ℤ u.y) e))
      go (nil p q) = absurd (n p q)
      go (down h) = ap is_plus (lex_is (neg_ℤ u.x) (neg_ℤ u.y) (up h))
